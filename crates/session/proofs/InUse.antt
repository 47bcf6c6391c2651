-- The used streams of a session as the code goes over them: the first of its eight.
use mathlib.Core.List.{List}
use mathlib.Core.Path.{◌≡◌}
use Prim.Native.Nat.{ℕ, ◌≤◌, ◌<◌}
use native.Mathlib.Omega.{arith}
use lib.ListN.{length, get_or, take}
use Rattle.std.proofs.lemmas.List.{get_or-take, length-take}
use Rattle.stream.specs.declared.Stream.{Stream}
use Rattle.session.specs.Session.{no_stream, stream_at}
use Rattle.session.specs.declared.Session.{Session}

module _ (s : Session) where
  abbrev pub in_use : List Stream
  in_use = take s.count s.streams

  pub used_in : (i : ℕ) → i < length in_use → i < s.count
  used_in i l = omega (arith, l, length-take s.count s.streams)

  pub used_is : (i : ℕ) → i < length in_use → get_or in_use i no_stream ≡ stream_at s i
  used_is i l = get_or-take s.count s.streams i no_stream (used_in i l)

  pub used_all : length s.streams ≡ 8 → s.count ≤ 8 → (i : ℕ) → i ≤ length in_use → length in_use ≤ i → i ≡ s.count
  used_all eight few i le past = omega (arith, eight, few, le, past, length-take s.count s.streams)
