-- Step 6, case by case: which test refuses, and what is known once none does.
use Prim.Native.Nat.{ℕ, ◌+◌, ◌*◌, ◌-◌, ◌≤◌, ◌<◌}
use mathlib.Core.Path.{◌≡◌, refl, ap, sym, ◌∙◌}
use mathlib.Core.Bool.{Bool, true, false}
use mathlib.Core.List.{List, []}
use native.Mathlib.Omega.{arith}
use borrow.Author.Tests.{lt-ltb, ltb-true, leb-true, le-leb, lt-leb}
use lib.Dec.{ltb}
use lib.ListN.{length}
use Rattle.model.specs.Res.{Res, refuse, ok, pick, need, each, map_res, is_ok, value_of, ◌>>◌}
use Rattle.model.specs.Bytes.{Bytes, holds, all}
use Rattle.model.specs.Metrics.{Metric, old_count, metric, metrics, new_count, new_hmtx}
use Rattle.model.proofs.Res.{true_false, ok-refuse, ok_inj, need_inv, each_inv}
use Rattle.hmtx.specs.Places.{inside, metrics_at, Room}
use Rattle.hmtx.specs.Measures.{sizes, counted, metrics_of}
use Rattle.hmtx.proofs.Places.{each-metric, inside-at}
use Rattle.hmtx.proofs.Count.{new_count-most}
use Rattle.hmtx.proofs.Written.{length-metrics_at, length-new_hmtx}

module _ (hhea h : Bytes) (ids : List ℕ) (c : ℕ) (is : c ≡ old_count hhea) where
  pub metrics-none : c ≡ 0 → metrics hhea h ids ≡ refuse 5
  unfolding metrics
  metrics-none z = rw (← is, z)

  pub metrics-short : 0 < c → length h < 4 * (c - 1) + 2 → metrics hhea h ids ≡ refuse 3
  unfolding metrics
  metrics-short p s = rw (← is, lt-ltb 0 c p, lt-leb (4 * (c - 1) + 2) (length h) s)

  pub metrics-each : 0 < c → 4 * (c - 1) + 2 ≤ length h → metrics hhea h ids ≡ each (metric h c) ids
  unfolding metrics
  metrics-each p l = rw (← is, lt-ltb 0 c p, le-leb (4 * (c - 1) + 2) (length h) l)

-- what a count says
pub record Counted (h : Bytes) (c : ℕ) (ids : List ℕ) (k : ℕ) : Type 0 where
  pub most : k ≤ length ids
  pub sized : map_res sizes (each (metric h c) ids) ≡ ok (k, 2 * length ids + 2 * k)

module _ (h : Bytes) (c : ℕ) (ids : List ℕ) where
  pub counted-outside : all (inside h c) ids ≡ false → counted h c ids ≡ refuse 3
  counted-outside e = rw (each-metric h c ids, e)

  pub counted-inside : all (inside h c) ids ≡ true → counted h c ids ≡ ok (new_count (metrics_at h c ids))
  counted-inside e = rw (each-metric h c ids, e)

  pub counted-refused : (k : ℕ) → refuse k ≡ counted h c ids → refuse k ≡ map_res sizes (each (metric h c) ids)
  counted-refused k e = go (each (metric h c) ids) e
    where
      go : (r : Res (List Metric)) → refuse k ≡ map_res new_count r → refuse k ≡ map_res sizes r
      go (refuse n) q = cc
      go (ok ms) q = cc

  pub counted-some : (k : ℕ) → ok k ≡ counted h c ids → 0 < length ids → Counted h c ids k
  counted-some k ek some = go (all (inside h c) ids) (each-metric h c ids)
    where
      go : (t : Bool) → each (metric h c) ids ≡ pick t (ok (metrics_at h c ids)) (refuse 3) → Counted h c ids k
      go false q = let z : ok k ≡ refuse 3 = rw q at ek in cc
      go true q =
          let ms : List Metric = metrics_at h c ids in
          let e : k ≡ new_count ms = ok_inj (rw q at ek) in
          let l : length ms ≡ length ids = length-metrics_at h c ids in
          let le : new_count ms ≤ length ms = new_count-most ms (omega arith) in
          let s : length (new_hmtx (new_count ms) ms) ≡ 2 * length ids + 2 * new_count ms = length-new_hmtx (new_count ms) ms le ∙ ap (λ (n : ℕ). 2 * n + 2 * new_count ms) l in
          record { most = omega arith; sized = rw (q, e, s) }

-- once no test refuses
need-is_ok : {A : Type 0} (k : ℕ) (t : Bool) (r : Res A) → is_ok (need k t >> r) ≡ true → (t ≡ true) × (is_ok r ≡ true)
need-is_ok k true r e = (refl, e)
need-is_ok k false r e = true_false (sym e)

pick-is_ok : {A : Type 0} (t : Bool) (a : A) (k : ℕ) → is_ok (pick t (ok a) (refuse k)) ≡ true → t ≡ true
pick-is_ok true a k e = refl
pick-is_ok false a k e = e

-- what the writers may rely on, and that the metrics are those read at the code's places
pub record Ready (hhea h : Bytes) (ids : List ℕ) (c : ℕ) : Type 0 where
  pub room : Room h c ids
  pub same : metrics_of hhea h ids ≡ metrics_at h c ids

pub metrics-ready : (hhea h : Bytes) (ids : List ℕ) (c : ℕ) → c ≡ old_count hhea → is_ok (metrics hhea h ids) ≡ true → c ≤ 65535 → length ids ≤ 65535 → Ready hhea h ids c
unfolding metrics
metrics-ready hhea h ids c is good small few =
    let s = need-is_ok 5 (ltb 0 (old_count hhea)) (need 3 (holds h (4 * (old_count hhea - 1)) 2) >> each (metric h (old_count hhea)) ids) good in
    let l = need-is_ok 3 (holds h (4 * (old_count hhea - 1)) 2) (each (metric h (old_count hhea)) ids) s.1 in
    let p : 0 < c = rw is (ltb-true 0 (old_count hhea) s.0) in
    let le : 4 * (c - 1) + 2 ≤ length h = rw is (leb-true (4 * (old_count hhea - 1) + 2) (length h) l.0) in
    let e : is_ok (each (metric h c) ids) ≡ true = rw is l.1 in
    let t : all (inside h c) ids ≡ true = pick-is_ok (all (inside h c) ids) (metrics_at h c ids) 3 (rw (each-metric h c ids) at e) in
    let read : metrics hhea h ids ≡ ok (metrics_at h c ids) = metrics-each hhea h ids c is p le ∙ each-metric h c ids ∙ ap (λ (u : Bool). pick u (ok (metrics_at h c ids)) (refuse 3)) t in
    record {
      room = record { some = p; small = small; long = le; metrics = λ i lt. inside-at h c ids i t lt; few = few };
      same = ap (λ (r : Res (List Metric)). value_of [] r) read;
    }

-- what the writers ask for, from what `measure` answers
pub record Fits (hhea h : Bytes) (ids : List ℕ) (count size : ℕ) : Type 0 where
  pub good : is_ok (metrics hhea h ids) ≡ true
  pub is-count : count ≡ new_count (metrics_of hhea h ids)
  pub is-size : size ≡ length (new_hmtx count (metrics_of hhea h ids))
  pub most : count ≤ length ids

metrics-length : (hhea h : Bytes) (ids : List ℕ) (ms : List Metric) → metrics hhea h ids ≡ ok ms → length ms ≡ length ids
unfolding metrics
metrics-length hhea h ids ms e =
    let c : ℕ = old_count hhea in
    let s = need_inv 5 (ltb 0 c) (need 3 (holds h (4 * (c - 1)) 2) >> each (metric h c) ids) ms e in
    let l = need_inv 3 (holds h (4 * (c - 1)) 2) (each (metric h c) ids) ms s.1 in
    (each_inv (metric h c) ids ms 0 (0, 0) l.1).same_length

pub measured-fits : (hhea h : Bytes) (ids : List ℕ) (count size : ℕ) → ok (count, size) ≡ map_res sizes (metrics hhea h ids) → 0 < length ids → Fits hhea h ids count size
measured-fits hhea h ids count size e some = go (metrics hhea h ids) refl e
  where
    go : (m : Res (List Metric)) → metrics hhea h ids ≡ m → ok (count, size) ≡ map_res sizes m → Fits hhea h ids count size
    go (refuse k) q f = ok-refuse f
    go (ok ms) q f =
        let p : (count, size) ≡ sizes ms = ok_inj f in
        let k : count ≡ new_count ms = ap (λ (x : ℕ × ℕ). x.0) p in
        let z : size ≡ length (new_hmtx (new_count ms) ms) = ap (λ (x : ℕ × ℕ). x.1) p in
        let l : length ms ≡ length ids = metrics-length hhea h ids ms q in
        let le : new_count ms ≤ length ms = new_count-most ms (omega arith) in
        record { good = rw q; is-count = rw q k; is-size = rw (q, k) z; most = omega arith }
