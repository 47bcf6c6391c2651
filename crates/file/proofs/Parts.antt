-- Bytes that are passed one by one: the next one, and a part with a byte more.
use mathlib.Core.List.{List, [], ◌∷◌, ◌++◌}
use mathlib.Core.Path.{◌≡◌, sym, ap, ◌∙◌}
use Prim.Native.Nat.{ℕ, suc, ◌+◌, ◌-◌, ◌≤◌, ◌<◌}
use native.Mathlib.Numerals.{add-one}
use native.Mathlib.Omega.{arith}
use lib.ListN.{length, drop, get_or, length-drop}
use lib.Seq.{take-suc, drop-cons, get_or-drop}
use Rattle.file.specs.Reading.{part}

module _ (bytes : List ℕ) (i : ℕ) (more : i < length bytes) where
  pub next : drop i bytes ≡ get_or bytes i 0 ∷ drop (i + 1) bytes
  next = rw add-one (drop-cons bytes i 0 more)

  pub part_longer : (start : ℕ) → start ≤ i → part start i bytes ++ (get_or bytes i 0 ∷ []) ≡ part start (i + 1) bytes
  part_longer start begun =
      let step : i + 1 - start ≡ suc (i - start) = omega arith in
      let place : start + (i - start) ≡ i = omega arith in
      let short : i - start < length (drop start bytes) = rw length-drop (omega arith) in
      sym
      (rw step
      (take-suc (drop start bytes) (i - start) 0 short
      ∙ ap (λ (b : ℕ). part start i bytes ++ (b ∷ [])) (get_or-drop start bytes (i - start) 0 ∙ ap (λ (k : ℕ). get_or bytes k 0) place)))

pub part_none : (bytes : List ℕ) (i : ℕ) → part i i bytes ≡ []
part_none bytes i = let none : i - i ≡ 0 = omega arith in rw none
