-- A word and numbers behind it: how much of them is taken, and the room for it.
use mathlib.Core.Path.{◌≡◌, refl, ap}
use mathlib.Core.List.{List, [], ◌∷◌, map}
use Prim.Native.Nat.{ℕ, zero, suc, ◌+◌, ◌^◌, min, ◌≤◌, ◌<◌}
use native.Mathlib.Omega.{arith}
use lib.ListN.{length, get_or, take, length-take}
use lib.Seq.{take-nil, take_all}
use Rattle.listing.specs.Line.{decimal, onward, rendered, worded_fields, refused_word, refused_fields, text_size}
use Rattle.listing.specs.Laws.{Each, Short}
use Rattle.listing.proofs.Each.{each_map}
use Rattle.listing.proofs.Decimal.{decimal_is_short}
use Rattle.listing.proofs.Texts.{rendered_length, fields_have_room}

-- an amount over that is not 0 stands behind the number of a refusal
pub refused_with : (number over : ℕ) → (over ≡ 0 → ⊥) → refused_fields number over ≡ worded_fields refused_word (number ∷ over ∷ [])
unfolding refused_fields
refused_with number zero some = absurd (some refl)
refused_with number (suc n) some = refl

-- the first n of a list, or all of a shorter one
pub taken : (n : ℕ) (l : List ℕ) {end : ℕ} → end ≡ min (length l) n → take end l ≡ take n l
taken zero l {end} e =
    let none : end ≡ 0 = omega (arith, e) in
    rw none refl
taken (suc n) [] {end} e = take-nil end
taken (suc n) (x ∷ l) {end} e =
    let more : end ≡ suc (min (length l) n) = omega (arith, e) in
    rw more (ap (λ rest. x ∷ rest) (taken n l refl))

-- the first n numbers of 64 bits
first_fit : (n : ℕ) (l : List ℕ) → ((i : ℕ) → get_or l i 0 < 2 ^ 64) → Each (λ k. k < 2 ^ 64) (take n l)
unfolding Each
first_fit zero l fits = tt
first_fit (suc n) [] fits = tt
first_fit (suc n) (x ∷ l) fits = (fits 0, first_fit n l (λ i. fits (suc i)))

map_length : (l : List ℕ) → length (map decimal l) ≡ length l
map_length [] = refl
map_length (x ∷ l) = ap suc (map_length l)

-- the room for a short field and the first five numbers behind it
pub first_room : (field numbers : List ℕ) → Short field → ((i : ℕ) → get_or numbers i 0 < 2 ^ 64) → length (rendered (field ∷ map decimal (take 5 numbers))) ≤ text_size
unfolding Each
first_room field numbers short fits =
    fields_have_room (field ∷ map decimal (take 5 numbers))
    (short, each_map (λ n. n < 2 ^ 64) Short decimal decimal_is_short (take 5 numbers) (first_fit 5 numbers fits))
    (omega (arith, length-take 5 numbers, map_length (take 5 numbers)))

pub worded_room : (word numbers : List ℕ) → ((i : ℕ) → get_or numbers i 0 < 2 ^ 64) → length (rendered (worded_fields word numbers)) ≤ text_size
unfolding worded_fields
worded_room word numbers fits = first_room (take 20 word) numbers (omega (arith, length-take 20 word)) fits

-- and for a number and up to five others
pub numbered_room : (first : ℕ) (others : List ℕ) → first < 2 ^ 64 → ((i : ℕ) → get_or others i 0 < 2 ^ 64) → length others ≤ 5
    → length (rendered (map decimal (first ∷ others))) ≤ text_size
numbered_room first others small fits few =
    let all : take 5 others ≡ others = take_all 5 others few in
    rw all at (first_room (decimal first) others (decimal_is_short first small) fits)

-- the room behind the word
pub numbers_room : (word numbers : List ℕ) → ((i : ℕ) → get_or numbers i 0 < 2 ^ 64)
    → length (take 20 word) + length (onward (map decimal (take 5 numbers))) ≤ text_size
unfolding worded_fields
numbers_room word numbers fits =
    omega (arith, worded_room word numbers fits, rendered_length (take 20 word) (map decimal (take 5 numbers)))
