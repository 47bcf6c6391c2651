-- An array that a loop fills from its front, and how a list reads after a change.
use mathlib.Core.List.{List, [], ◌∷◌, ◌++◌, map, map-id, map-map, map-append}
use mathlib.Core.Path.{◌≡◌, refl, sym, subst, ◌∙◌, ap, fun_ext}
use mathlib.Core.Logic.{⊎_elim}
use Prim.Native.Nat.{ℕ, zero, suc, ◌+◌, ◌-◌, ◌≤◌, ◌<◌}
use native.Mathlib.Nat.{not-suc-le-zero, suc-le-suc_iff}
use native.Mathlib.Numerals.{add-one}
use native.Mathlib.Omega.{arith}
use lib.ListN.{length, get_or, take, drop, set, length-append, length-take, length-drop, length-set, get_or-append, get_or-map, get_or-eq_default}
use lib.Seq.{length-take-le, take_at, take_all, take-suc, take-suc-set, take-append-le, get_or-set_same, get_or-set_other, map-set_same, get_or-drop, get_or_at, get_or-append-add}
use Rattle.table.specs.Fold.{closed_up, leaving, list_to}
use Rattle.table.proofs.Tests.{le_or_lt}
use Rattle.table.proofs.Folds.{at_or_below}

module _ {A : Type 0} (f : ℕ → A) where
  -- of n cells those below i are filled
  pub record Filled (xs : List A) (i n : ℕ) : Type 0 where
    pub cells : length xs ≡ n
    pub front : take i xs ≡ list_to f i

  pub filled_more : (xs : List A) (i n : ℕ) → i < n → Filled xs i n → Filled (set xs i (f i)) (i + 1) n
  unfolding list_to
  filled_more xs i n l q =
      let e : i < length xs = omega (arith, q.cells) in
      record { cells = length-set xs i (f i) ∙ q.cells; front = rw (add-one, take-suc-set xs i (f i) e, q.front) }

  pub filled_all : (xs : List A) (n : ℕ) → Filled xs n n → xs ≡ list_to f n
  filled_all xs n q = sym (take_all n xs (omega (arith, q.cells))) ∙ q.front

  -- cells that already hold what they should need no filling
  pub filled_on : (xs : List A) (d : A) (i n : ℕ) → i ≤ n → ((j : ℕ) → i ≤ j → j < n → get_or xs j d ≡ f j) → Filled xs i n → Filled xs n n
  unfolding list_to
  filled_on xs d i n le holds q = let e : i + (n - i) ≡ n = omega arith in subst (λ (m : ℕ). Filled xs m n) e (go (n - i) (omega arith))
    where
      go : (m : ℕ) → i + m ≤ n → Filled xs (i + m) n
      go zero l = let e : i + 0 ≡ i = omega arith in rw e q
      go (suc m) l =
          let e : i + suc m ≡ suc (i + m) = omega arith in
          let here = go m (omega arith) in
          rw e
          (record {
            cells = q.cells;
            front = rw (take-suc xs (i + m) d (omega (arith, q.cells)), here.front, holds (i + m) (omega arith) (omega arith));
          })

  -- cells that hold f 0, .., f (n - 1) are the list of these
  pub listed : (xs : List A) (d : A) (n : ℕ) → length xs ≡ n → ((j : ℕ) → j < n → get_or xs j d ≡ f j) → xs ≡ list_to f n
  unfolding list_to
  listed xs d n cells holds =
      filled_all xs n (filled_on xs d 0 n (omega arith) (λ j le l. holds j l) (record { cells = cells; front = refl }))

  -- the list of f 0, .., f (n - 1) has n elements, and f i at i
  pub length_list_to : (n : ℕ) → length (list_to f n) ≡ n
  unfolding list_to
  length_list_to zero = refl
  length_list_to (suc n) = rw (length-append (list_to f n) (f n ∷ []), length_list_to n) (omega arith)

  pub get_d_list_to : (d : A) (n i : ℕ) → i < n → get_or (list_to f n) i d ≡ f i
  unfolding list_to
  get_d_list_to d zero i l = absurd (not-suc-le-zero l)
  get_d_list_to d (suc n) i l =
      at_or_below (λ j. get_or (list_to f n ++ (f n ∷ [])) j d ≡ f j) i l
      (get_or_at (list_to f n) (f n) [] d n (length_list_to n))
      (λ u. get_or-append (list_to f n) (f n ∷ []) d i (omega (arith, length_list_to n)) ∙ get_d_list_to d n i u)

module _ {A : Type 0} (xs : List A) (i : ℕ) (y d : A) where
  -- what holds of a new element, and of the others, holds at each place
  pub set_each : (P : A → Type 0) → i < length xs → P y → (j : ℕ) → P (get_or xs j d) → P (get_or (set xs i y) j d)
  set_each P l new j old =
      ⊎_elim
      (λ (u : j ≤ i).
      ⊎_elim
      (λ (v : i ≤ j). let e : j ≡ i = omega arith in rw (e, get_or-set_same xs i y d l) new)
      (λ (v : j < i). rw (get_or-set_other xs i j y d (λ e. omega arith)) old)
      (le_or_lt i j))
      (λ (u : i < j). rw (get_or-set_other xs i j y d (λ e. omega arith)) old)
      (le_or_lt j i)

  -- what a new element has in common with the old one is as it was at each place
  pub set_alike : {B : Type 0} (f : A → B) → f y ≡ f (get_or xs i d) → (j : ℕ) → f (get_or (set xs i y) j d) ≡ f (get_or xs j d)
  set_alike f e j =
      sym (get_or-map f (set xs i y) j d) ∙ ap (λ l. get_or l j (f d)) (map-set_same f xs i y d e) ∙ get_or-map f xs j d

-- what a change of each element leaves is left of the list
pub map_alike : {A B : Type 0} (f : A → B) (g : A → A) → ((x : A) → f (g x) ≡ f x) → (xs : List A) → map f (map g xs) ≡ map f xs
map_alike f g e xs = map-map f g xs ∙ ap (λ h. map h xs) (fun_ext e)

-- reading past the end of a list gives the default, also where that is put there
pub get_d_padded : {A : Type 0} (xs : List A) (d : A) (n : ℕ) → get_or (xs ++ (d ∷ [])) n d ≡ get_or xs n d
get_d_padded [] d zero = refl
get_d_padded [] d (suc n) = refl
get_d_padded (x ∷ xs) d zero = refl
get_d_padded (x ∷ xs) d (suc n) = get_d_padded xs d n

-- a list that loses the element at j, and gets the default at its end
module _ {A : Type 0} (xs : List A) (d : A) (j : ℕ) (l : j < length xs) where
  pub length_closed_up : length (closed_up d j xs) ≡ length xs
  length_closed_up =
      rw (
        length-append (take j xs) (drop (suc j) xs ++ (d ∷ [])),
        length-append (drop (suc j) xs) (d ∷ []),
        length-take j xs,
        length-drop (suc j) xs,
      )
      (omega arith)

  -- from j on the elements stand one place lower
  pub get_d_closed_up : (k : ℕ) → j ≤ k → get_or (closed_up d j xs) k d ≡ get_or xs (suc k) d
  get_d_closed_up k le =
      let n = k - j in
      let here : k ≡ length (take j xs) + n = omega (arith, length-take-le j xs (omega arith)) in
      let there : suc j + n ≡ suc k = omega arith in
      ap (λ m. get_or (closed_up d j xs) m d) here
      ∙ get_or-append-add (take j xs) (drop (suc j) xs ++ (d ∷ [])) n d
      ∙ get_d_padded (drop (suc j) xs) d n
      ∙ get_or-drop (suc j) xs n d
      ∙ ap (λ m. get_or xs m d) there

-- a list that is mapped, by its indices
module _ {A B : Type 0} (f : A → B) (xs : List A) (d : A) where
  pub front_mapped : (n : ℕ) → n ≤ length xs → list_to (λ i. f (get_or xs i d)) n ≡ map f (take n xs)
  unfolding list_to
  front_mapped zero le = refl
  front_mapped (suc n) le =
      rw (take-suc xs n d le, map-append f (take n xs) (get_or xs n d ∷ []), front_mapped n (omega arith))

  pub mapped : (n : ℕ) → length xs ≡ n → list_to (λ i. f (get_or xs i d)) n ≡ map f xs
  mapped n e = front_mapped n (omega (arith, e)) ∙ ap (map f) (take_all n xs (omega (arith, e)))

-- a list, by its indices
pub relisted : {A : Type 0} (xs : List A) (d : A) (n : ℕ) → length xs ≡ n → list_to (λ i. get_or xs i d) n ≡ xs
relisted xs d n e = mapped (λ x. x) xs d n e ∙ map-id xs

-- a row of cells closes up over the one at j, cell by cell
module _ {A : Type 0} (row : List A) (empty : A) (j n : ℕ) (cells : length row ≡ n) (hj : j < n) where
  -- what it has in a cell afterwards
  abbrev closed_cell : ℕ → A
  closed_cell x = get_or (closed_up empty j row) x empty

  long : length (closed_up empty j row) ≡ n
  long = length_closed_up row empty j (omega (arith, cells)) ∙ cells

  -- the cells before j are as they were
  pub closing_starts : Filled closed_cell row j n
  closing_starts =
      record {
        cells = cells;
        front =
            sym
            (front_mapped (λ (x : A). x) (closed_up empty j row) empty j (omega (arith, long))
            ∙ map-id (take j (closed_up empty j row))
            ∙ take_at (take j row) (drop (suc j) row ++ (empty ∷ [])) j (length-take-le j row (omega (arith, cells))));
      }

  -- each next cell takes what stood behind it
  pub closing_goes_on : (left : List A) (i : ℕ) → j ≤ i → i < n → Filled closed_cell left i n
      → Filled closed_cell (set left i (get_or row (i + 1) empty)) (i + 1) n
  closing_goes_on left i le l q =
      let behind : closed_cell i ≡ get_or row (i + 1) empty = get_d_closed_up row empty j (omega (arith, cells)) i le ∙ ap (λ (n : ℕ). get_or row n empty) (sym (add-one i)) in
      subst (λ (v : A). Filled closed_cell (set left i v) (i + 1) n) behind (filled_more closed_cell left i n l q)

  -- and the last is empty
  pub closing_ends : (left : List A) (last : ℕ) → last + 1 ≡ n → Filled closed_cell left last n → set left last empty ≡ closed_up empty j row
  closing_ends left last e q =
      let free : get_or row (last + 1) empty ≡ empty = get_or-eq_default row empty {n = last + 1} (omega (arith, cells)) in
      let all : Filled closed_cell (set left last (get_or row (last + 1) empty)) n n = subst (λ (m : ℕ). Filled closed_cell (set left last (get_or row (last + 1) empty)) m n) e (closing_goes_on left last (omega arith) (omega arith) q) in
      ap (set left last) (sym free)
      ∙ filled_all closed_cell (set left last (get_or row (last + 1) empty)) n all
      ∙ relisted (closed_up empty j row) empty n long

-- a list that leaves one out: it is as it was before that one, and from there on each stands one place lower
module _ {A : Type 0} (d : A) where
  pub leaving_below : (j k : ℕ) (xs : List A) → k < j → get_or (leaving j xs) k d ≡ get_or xs k d
  unfolding leaving
  leaving_below j k [] l = refl
  leaving_below zero k (x ∷ xs) l = absurd (not-suc-le-zero l)
  leaving_below (suc j) zero (x ∷ xs) l = refl
  leaving_below (suc j) (suc k) (x ∷ xs) l = leaving_below j k xs (suc-le-suc_iff.0 l)

  pub leaving_from : (j k : ℕ) (xs : List A) → j ≤ k → get_or (leaving j xs) k d ≡ get_or xs (suc k) d
  unfolding leaving
  leaving_from j k [] le = refl
  leaving_from zero k (x ∷ xs) le = refl
  leaving_from (suc j) zero (x ∷ xs) le = absurd (not-suc-le-zero le)
  leaving_from (suc j) (suc k) (x ∷ xs) le = leaving_from j k xs (suc-le-suc_iff.0 le)

  -- cells that close up leave one out, and have the empty one at their end
  pub closed_up_leaving : (j : ℕ) (xs : List A) → j < length xs → closed_up d j xs ≡ leaving j xs ++ (d ∷ [])
  unfolding leaving
  closed_up_leaving j [] l = absurd (not-suc-le-zero l)
  closed_up_leaving zero (x ∷ xs) l = refl
  closed_up_leaving (suc j) (x ∷ xs) l = ap (λ (ys : List A). x ∷ ys) (closed_up_leaving j xs (suc-le-suc_iff.0 l))

  -- the first n of a list that closes up over j are its first n + 1 without that one
  pub closes_up : (j n : ℕ) (xs : List A) → j ≤ n → n < length xs → take n (closed_up d j xs) ≡ leaving j (take (suc n) xs)
  unfolding leaving
  closes_up j n [] le l = absurd (not-suc-le-zero l)
  closes_up zero n (x ∷ xs) le l = take-append-le n xs (d ∷ []) (suc-le-suc_iff.0 l)
  closes_up (suc j) zero (x ∷ xs) le l = absurd (not-suc-le-zero le)
  closes_up (suc j) (suc n) (x ∷ xs) le l =
      ap (λ (ys : List A). x ∷ ys) (closes_up j n xs (suc-le-suc_iff.0 le) (suc-le-suc_iff.0 l))

-- it is one shorter, and without the last of a list it is what stands before
module _ {A : Type 0} where
  pub length_leaving : (j : ℕ) (xs : List A) → j < length xs → suc (length (leaving j xs)) ≡ length xs
  unfolding leaving
  length_leaving j [] l = absurd (not-suc-le-zero l)
  length_leaving zero (x ∷ xs) l = refl
  length_leaving (suc j) (x ∷ xs) l = ap suc (length_leaving j xs (suc-le-suc_iff.0 l))

  pub leaving_last : (xs : List A) (x : A) → leaving (length xs) (xs ++ (x ∷ [])) ≡ xs
  unfolding leaving
  leaving_last [] x = refl
  leaving_last (y ∷ xs) x = ap (λ (ys : List A). y ∷ ys) (leaving_last xs x)
