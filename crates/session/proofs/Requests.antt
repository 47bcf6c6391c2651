-- Lists of requests: what a queue holds as one arrives and as one leaves.
use mathlib.Core.List.{List, [], ◌∷◌, ◌++◌}
use mathlib.Core.Path.{◌≡◌, refl, sym, ◌∙◌, ap, ap₂}
use Prim.Native.Nat.{ℕ, zero, suc, ◌+◌, ◌-◌, ◌<◌}
use native.Mathlib.Nat.{not-suc-le-zero, suc-le-suc_iff}
use native.Mathlib.Numerals.{add-one}
use native.Mathlib.Omega.{arith}
use lib.ListN.{length, get_or, take, set}
use lib.Seq.{length-take-le, take-suc-set, get_or-take}
use Rattle.table.specs.Fold.{closed_up, leaving}
use Rattle.table.proofs.Lists.{closes_up}
use Rattle.stream.specs.Stream.{queue_max, arrived, without}
use Rattle.stream.specs.declared.Stream.{Stream}
use Rattle.stream.proofs.Orderly.{Queue}
use Rattle.session.specs.Tags.{Request, requests, queued_in}

-- requests without tags are none
untold : (i : ℕ) (places : List ℕ) → requests i places [] ≡ []
unfolding requests
untold i [] = refl
untold i (p ∷ places) = refl

leave : (i j : ℕ) (places tags : List ℕ) → requests i (leaving j places) (leaving j tags) ≡ leaving j (requests i places tags)
unfolding requests leaving
leave i j [] tags = refl
leave i j (p ∷ places) [] = untold i (leaving j (p ∷ places))
leave i zero (p ∷ places) (t ∷ tags) = refl
leave i (suc j) (p ∷ places) (t ∷ tags) = ap (λ (rs : List Request). record { stream = i; place = p; tag = t } ∷ rs) (leave i j places tags)

join : (i place tag : ℕ) (places tags : List ℕ) → length places ≡ length tags
    → requests i (places ++ (place ∷ [])) (tags ++ (tag ∷ [])) ≡ requests i places tags ++ (record { stream = i; place = place; tag = tag } ∷ [])
unfolding requests
join i place tag [] [] e = refl
join i place tag [] (t ∷ tags) e = absurd (omega (arith, e))
join i place tag (p ∷ places) [] e = absurd (omega (arith, e))
join i place tag (p ∷ places) (t ∷ tags) e =
    ap (λ (rs : List Request). record { stream = i; place = p; tag = t } ∷ rs) (join i place tag places tags (omega (arith, e)))

at : (i j : ℕ) (places tags : List ℕ) (d : Request) → j < length places → j < length tags
    → get_or (requests i places tags) j d ≡ record { stream = i; place = get_or places j 0; tag = get_or tags j 0 }
unfolding requests
at i j [] tags d l m = absurd (not-suc-le-zero l)
at i j (p ∷ places) [] d l m = absurd (not-suc-le-zero m)
at i zero (p ∷ places) (t ∷ tags) d l m = refl
at i (suc j) (p ∷ places) (t ∷ tags) d l m = at i j places tags d (suc-le-suc_iff.0 l) (suc-le-suc_iff.0 m)

module _ (i : ℕ) (x : Stream) (q : Queue x.queued x.places x.tags) where
  -- a request that arrives stands at the end
  pub joined : (place tag : ℕ) → x.queued < queue_max
      → queued_in i (arrived place tag x) ≡ queued_in i x ++ (record { stream = i + 1; place = place; tag = tag } ∷ [])
  unfolding arrived
  joined place tag space =
      let n = x.queued in
      let more : (v : ℕ) (row : List ℕ) → length row ≡ queue_max → take (n + 1) (set row n v) ≡ take n row ++ (v ∷ []) =
      λ v row sixteen. ap (λ (m : ℕ). take m (set row n v)) (add-one n) ∙ take-suc-set row n v (omega (arith, sixteen, space)) in
      let long : (row : List ℕ) → length row ≡ queue_max → length (take n row) ≡ n = λ row sixteen. length-take-le n row (omega (arith, sixteen, space)) in
      ap₂ (requests (i + 1)) (more place x.places q.places.sixteen) (more tag x.tags q.tags.sixteen)
      ∙ join (i + 1) place tag (take n x.places) (take n x.tags) (long x.places q.places.sixteen ∙ sym (long x.tags q.tags.sixteen))

  module _ (j : ℕ) (l : j < x.queued) where
    -- one that leaves is gone, and no other
    pub left : queued_in i (without j x) ≡ leaving j (queued_in i x)
    unfolding without
    left =
        let n = x.queued - 1 in
        let all : suc n ≡ x.queued = omega (arith, l) in
        let fewer : (row : List ℕ) → length row ≡ queue_max → take n (closed_up 0 j row) ≡ leaving j (take x.queued row) =
        λ row sixteen. closes_up 0 j n row (omega (arith, l)) (omega (arith, l, sixteen, q.places.queued_high)) ∙ ap (λ (m : ℕ). leaving j (take m row)) all in
        ap₂ (requests (i + 1)) (fewer x.places q.places.sixteen) (fewer x.tags q.tags.sixteen)
        ∙ leave (i + 1) j (take x.queued x.places) (take x.queued x.tags)

    -- and is the one that stood there
    pub taken : (d : Request) → get_or (queued_in i x) j d ≡ record { stream = i + 1; place = get_or x.places j 0; tag = get_or x.tags j 0 }
    taken d =
        let here : (row : List ℕ) → length row ≡ queue_max → j < length (take x.queued row) =
        λ row sixteen. omega (arith, l, length-take-le x.queued row (omega (arith, sixteen, q.places.queued_high))) in
        at (i + 1) j (take x.queued x.places) (take x.queued x.tags) d (here x.places q.places.sixteen) (here x.tags q.tags.sixteen)
        ∙ ap₂ (λ (p t : ℕ). record { stream = i + 1; place = p; tag = t })
        (get_or-take x.queued x.places j 0 l) (get_or-take x.queued x.tags j 0 l)
