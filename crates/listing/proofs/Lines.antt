-- Lines tell their fields: a field ends at the first byte that is not above the space.
use mathlib.Core.Path.{◌≡◌, refl, sym, ap, subst, ◌∙◌}
use mathlib.Core.List.{List, [], ◌∷◌, ◌++◌, map, append_assoc, append-nil, head-eq_of_cons-eq}
use Prim.Native.Nat.{ℕ, ◌+◌, ◌≤◌, ◌<◌}
use Prim.Native.Char.{code}
use native.Mathlib.Omega.{arith}
use lib.ListN.{length}
use Rattle.listing.specs.Line.{ascii, space, newline, zero_digit, decimal, onward, rendered, worded_fields, header_fields, refused_word, tally_header_fields, total_fields, accepted_fields}
use Rattle.listing.specs.Laws.{Each, Digit, Field, PrintsFields, LinesTell, FieldsTell, NumbersTell, NewlineEnds, KindsDiffer}
use Rattle.listing.proofs.Each.{each_append, each_weaker}
use Rattle.listing.proofs.Decimal.{decimal_is_digits, decimal_some, decimal_tells}

abbrev Above : ℕ → Type 0
Above byte = space < byte

-- ---- the fields that are printed

pub decimal_field : (n : ℕ) → Field (decimal n)
decimal_field n =
    (decimal_some n, each_weaker Digit Above (λ byte d. omega (arith, d.0)) (decimal n) (decimal_is_digits n))

pub decimal_fields : (numbers : List ℕ) → Each Field (map decimal numbers)
unfolding Each
decimal_fields [] = tt
decimal_fields (n ∷ rest) = (decimal_field n, decimal_fields rest)

-- ---- one field, and what follows it

-- what follows a field begins with a byte that is not above the space
unfoldable Ends : List ℕ → Type 0
Ends [] = ⊥
Ends (byte ∷ rest) = byte ≤ space

onward_ends : (fields : List (List ℕ)) (after : List ℕ) → Ends (onward fields ++ after)
unfolding Ends onward
onward_ends [] after = omega arith
onward_ends (field ∷ rest) after = omega arith

field_tells : (a b after-a after-b : List ℕ) → Each Above a → Each Above b → Ends after-a → Ends after-b
    → a ++ after-a ≡ b ++ after-b
    → (a ≡ b) × (after-a ≡ after-b)
unfolding Each Ends
field_tells [] [] x y p q ex ey h = (refl, h)
field_tells [] (c ∷ b) [] y p q ex ey h = absurd ex
field_tells [] (c ∷ b) (s ∷ x) y p q ex ey h = let e : s ≡ c = cc in absurd (omega (arith, q.0, ex))
field_tells (c ∷ a) [] x [] p q ex ey h = absurd ey
field_tells (c ∷ a) [] x (s ∷ y) p q ex ey h = let e : c ≡ s = cc in absurd (omega (arith, p.0, ey))
field_tells (c ∷ a) (d ∷ b) x y p q ex ey h =
    let e : c ≡ d = cc in
    let tail : a ++ x ≡ b ++ y = cc in
    let rest = field_tells a b x y p.1 q.1 ex ey tail in
    (let same : a ≡ b = rest.0 in cc, rest.1)

-- ---- all fields of a line

-- a field and those after it, once those after it tell themselves
next_tells : (f g : List ℕ) (a b : List (List ℕ)) (x y : List ℕ) → Field f → Field g
    → (onward a ++ x ≡ onward b ++ y → (a ≡ b) × (x ≡ y))
    → f ++ onward a ++ x ≡ g ++ onward b ++ y
    → (f ∷ a ≡ g ∷ b) × (x ≡ y)
next_tells f g a b x y p q tell h =
    let split = field_tells f g (onward a ++ x) (onward b ++ y) p.1 q.1 (onward_ends a x) (onward_ends b y)
    (sym (append_assoc f (onward a) x) ∙ h ∙ append_assoc g (onward b) y) in
    let rest = tell split.1 in
    (let same : f ≡ g = split.0 in let others : a ≡ b = rest.0 in cc, rest.1)

onward_tells : (a b : List (List ℕ)) (x y : List ℕ) → Each Field a → Each Field b → onward a ++ x ≡ onward b ++ y → (a ≡ b) × (x ≡ y)
unfolding Each onward
onward_tells [] [] x y p q h = (refl, cc)
onward_tells [] (g ∷ b) x y p q h = let e : newline ≡ space = cc in absurd (omega (arith, e))
onward_tells (f ∷ a) [] x y p q h = let e : space ≡ newline = cc in absurd (omega (arith, e))
onward_tells (f ∷ a) (g ∷ b) x y p q h =
    let tail : f ++ onward a ++ x ≡ g ++ onward b ++ y = cc in
    next_tells f g a b x y p.0 q.0 (onward_tells a b x y p.1 q.1) tail

-- a line without fields is no line with one
none_tells : (g : List ℕ) (b : List (List ℕ)) (x y : List ℕ) → Field g → newline ∷ x ≡ g ++ onward b ++ y → ⊥
unfolding Each Ends
none_tells g b x y q h =
    let split = field_tells [] g (newline ∷ x) (onward b ++ y) tt q.1 (omega arith) (onward_ends b y)
    (h ∙ append_assoc g (onward b) y) in
    omega (arith, q.0, ap length split.0)

pub lines_tell : LinesTell
unfolding Each rendered
lines_tell [] [] x y p q h = (refl, cc)
lines_tell [] (g ∷ b) x y p q h = absurd (none_tells g b x y q.0 h)
lines_tell (f ∷ a) [] x y p q h = absurd (none_tells f a y x p.0 (sym h))
lines_tell (f ∷ a) (g ∷ b) x y p q h =
    next_tells f g a b x y p.0 q.0 (onward_tells a b x y p.1 q.1) h

pub fields_tell : FieldsTell
fields_tell a b p q h =
    (lines_tell a b [] [] p q (append-nil (rendered a) ∙ h ∙ sym (append-nil (rendered b)))).0

map_decimal_tells : (a b : List ℕ) → map decimal a ≡ map decimal b → a ≡ b
map_decimal_tells [] [] h = refl
map_decimal_tells [] (n ∷ b) h = cc
map_decimal_tells (m ∷ a) [] h = cc
map_decimal_tells (m ∷ a) (n ∷ b) h =
    let first : decimal m ≡ decimal n = cc in
    let rest : map decimal a ≡ map decimal b = cc in
    let same : m ≡ n = decimal_tells m n first in
    let others : a ≡ b = map_decimal_tells a b rest in
    cc

pub numbers_tell : NumbersTell
numbers_tell a b h =
    map_decimal_tells a b (fields_tell (map decimal a) (map decimal b) (decimal_fields a) (decimal_fields b) h)

-- ---- the newline

abbrev pub NoNewline : ℕ → Type 0
NoNewline byte = byte ≡ newline → ⊥

field_newline : (field : List ℕ) → Each Above field → Each NoNewline field
field_newline = each_weaker Above NoNewline (λ byte l e. omega (arith, e))

-- some bytes that are no newline, and then one
abbrev pub OneNewline : List ℕ → Type 0
OneNewline line = (front : List ℕ) × (line ≡ front ++ (newline ∷ [])) × Each NoNewline front

newline_alone : OneNewline (newline ∷ [])
unfolding Each
newline_alone = ([], refl, tt)

newline_after : (front line : List ℕ) → Each NoNewline front → OneNewline line → OneNewline (front ++ line)
newline_after front line p (rest, same, q) =
    (front ++ rest, rw same (sym (append_assoc front rest (newline ∷ []))), each_append NoNewline front rest p q)

onward_newline : (fields : List (List ℕ)) → Each Field fields → OneNewline (onward fields)
unfolding Each onward
onward_newline [] p = newline_alone
onward_newline (field ∷ rest) p =
    newline_after (space ∷ field) (onward rest) (λ e. omega (arith, e), field_newline field p.0.1) (onward_newline rest p.1)

pub newline_ends : NewlineEnds
unfolding Each rendered
newline_ends [] p = newline_alone
newline_ends (field ∷ rest) p = newline_after field (onward rest) (field_newline field p.0.1) (onward_newline rest p.1)

-- ---- the kinds of lines

header_fields_lem : Each Field header_fields
unfolding Each ascii header_fields
header_fields_lem = (omega arith, (omega arith, (omega arith, (omega arith, (omega arith, (omega arith, tt))))))

tally_header_fields_lem : Each Field tally_header_fields
unfolding Each ascii tally_header_fields
tally_header_fields_lem = (omega arith, (omega arith, (omega arith, (omega arith, (omega arith, (omega arith, tt))))))

total_fields_lem : Each Field total_fields
unfolding Each ascii worded_fields
total_fields_lem = (omega arith, tt)

accepted_fields_lem : Each Field accepted_fields
unfolding Each ascii worded_fields
accepted_fields_lem = (omega arith, tt)

refused_fields_lem : (numbers : List ℕ) → Each Field (refused_word ∷ map decimal numbers)
unfolding Each ascii
refused_fields_lem numbers = ((omega arith, omega arith), decimal_fields numbers)

pub prints_fields : PrintsFields
prints_fields = (header_fields_lem, tally_header_fields_lem, total_fields_lem, accepted_fields_lem, λ numbers. (decimal_fields numbers, refused_fields_lem numbers))

-- a letter begins no number
letter_no_number : (letter n : ℕ) (rest : List ℕ) → zero_digit + 9 < letter → letter ∷ rest ≡ decimal n → ⊥
unfolding Each
letter_no_number letter n rest l h =
    let first : Each Digit (letter ∷ rest) = subst (Each Digit) (sym h) (decimal_is_digits n) in
    omega (arith, first.0.1)

pub kinds_differ : KindsDiffer
unfolding ascii header_fields
kinds_differ number others refusal =
    let event = decimal_fields (number ∷ others) in
    let refused = refused_fields_lem refusal in (
      (λ h.
          let words : ascii "event" ≡ refused_word = head-eq_of_cons-eq (fields_tell header_fields (refused_word ∷ map decimal refusal) header_fields_lem refused h) in
          let letters : code "e" ≡ code "r" = head-eq_of_cons-eq words in
          omega (arith, letters)),
      (λ h. letter_no_number (code "e") number _ (omega arith) (head-eq_of_cons-eq (fields_tell header_fields (map decimal (number ∷ others)) header_fields_lem event h))),
      λ h. letter_no_number (code "r") number _ (omega arith) (head-eq_of_cons-eq (fields_tell (refused_word ∷ map decimal refusal) (map decimal (number ∷ others)) refused event h)),
    )
