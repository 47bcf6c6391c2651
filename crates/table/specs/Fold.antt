-- A choice by a test, cells that close up, a list that leaves one out, and folds over the streams of a table or a session, which are counted from 0: each goes up to a count, and each is written once, here.
use Rattle.std.specs.Prelude.{Bool, true, false, ◌&&◌, ◌||◌, List, [], ◌∷◌, ◌++◌, ℕ, zero, suc, ◌+◌, min, max, take, drop}

module _ {A : Type 0} where
  unfoldable pub if : Bool → A → A → A
  if true x y = x
  if false x y = y

  -- cells that close up over the one at j, where the last, which is set free, is empty then
  abbrev pub closed_up : A → ℕ → List A → List A
  closed_up empty j cells = take j cells ++ (drop (suc j) cells ++ (empty ∷ []))

  -- a list without what it has at j, counted from 0: the others keep their order
  unfoldable pub leaving : ℕ → List A → List A
  leaving j [] = []
  leaving zero (x ∷ rest) = rest
  leaving (suc j) (x ∷ rest) = x ∷ leaving j rest

-- f 0 + .. + f (n - 1)
unfoldable pub sum_to : (ℕ → ℕ) → ℕ → ℕ
sum_to f zero = 0
sum_to f (suc n) = sum_to f n + f n

-- the smallest of f 0, .., f (n - 1), and f 0 where n is 0
unfoldable pub smallest_to : (ℕ → ℕ) → ℕ → ℕ
smallest_to f zero = f 0
smallest_to f (suc n) = min (smallest_to f n) (f n)

-- the largest of f 0, .., f (n - 1), and 0 where n is 0
unfoldable pub largest_to : (ℕ → ℕ) → ℕ → ℕ
largest_to f zero = 0
largest_to f (suc n) = max (largest_to f n) (f n)

-- every one of 0, .., n - 1 passes the test
unfoldable pub all_to : (ℕ → Bool) → ℕ → Bool
all_to f zero = true
all_to f (suc n) = all_to f n && f n

-- some one of 0, .., n - 1 passes the test
unfoldable pub some_to : (ℕ → Bool) → ℕ → Bool
some_to f zero = false
some_to f (suc n) = some_to f n || f n

module _ {A : Type 0} where
  -- the list of f 0, .., f (n - 1)
  unfoldable pub list_to : (ℕ → A) → ℕ → List A
  list_to f zero = []
  list_to f (suc n) = list_to f n ++ (f n ∷ [])

  -- the lists f 0, .., f (n - 1), one behind the other
  unfoldable pub join_to : (ℕ → List A) → ℕ → List A
  join_to f zero = []
  join_to f (suc n) = join_to f n ++ f n

-- how many of 0, .., n - 1 pass the test
unfoldable pub count_to : (ℕ → Bool) → ℕ → ℕ
count_to f zero = 0
count_to f (suc n) = if (f n) (suc (count_to f n)) (count_to f n)
