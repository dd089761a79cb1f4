-- What a call leaves follows from what it made: the file, the roster; so two calls that make the same, but for the roster's numbers, end alike.
use mathlib.Core.Path.{◌≡◌, refl, sym, ap, ap₂, ◌∙◌, subst}
use mathlib.Core.Bool.{Bool, true, false}
use mathlib.Core.List.{List, ◌++◌, map, append_assoc}
use Prim.Native.Nat.{ℕ, ◌*◌, ◌-◌, ◌≤◌}
use native.Mathlib.Omega.{arith}
use lib.Dec.{leb}
use lib.ListN.{length, get_or, take, drop, replicate, length-map}
use lib.Seq.{take_at}
use borrow.Author.Tests.{le-leb, leb-true}
use Rattle.model.specs.Res.{Res, refuse, ok, pick, need, map_res, ◌>>=◌, ◌>>◌}
use Rattle.model.specs.Bytes.{Bytes, over}
use Rattle.model.proofs.Res.{need-ok, bind_ok, bind_inv, need_inv, ok_inj}
use Rattle.model.specs.Font.{Tables, read}
use Rattle.model.specs.File.{entries, file}
use Rattle.model.specs.Cut.{count, CutFont, cut_tables}
use Rattle.model.specs.Call.{Input, Answer, Made, ready, made, last, delivered, answer, out_from, out_after, places_from, scratch_from, scratch_after}
use Rattle.theorems.specs.Twice.{file_of, roster_of, ScratchEnough, Same}
use Rattle.theorems.proofs.Cut.{rename}
use Rattle.theorems.proofs.Refusals.{refusals}

-- What a call leaves, once its tables are read
module _ (x : Input) (t : Tables) (passed : ready x ≡ ok t) where
  answer-is : answer x ≡ last (length x.out) (made t x.ids)
  unfolding answer
  answer-is = ap {B = Answer} (λ m. last (length x.out) (m >>= λ t. made t x.ids)) passed

  module _ (m : Made) (cut : made t x.ids ≡ ok m) (room : leb (length m.bytes) (length x.out) ≡ true) where
    pub answer_ok : answer x ≡ delivered true m
    answer_ok = answer-is ∙ ap (last (length x.out)) cut ∙ ap (λ (t : Bool). delivered t m) room

    pub out-ok : out_after x ≡ over m.bytes x.out
    unfolding out_after
    out-ok =
        ap (λ (r : Res Tables). out_from x.out (r >>= λ t. made t x.ids)) passed
        ∙ ap (out_from x.out) cut
        ∙ ap (λ (t : Bool). pick t (over m.bytes x.out) x.out) room

    pub scratch-ok : scratch_after x ≡ (m.roster ++ replicate (4 * count t - length m.roster) 0) ++ drop (4 * count t) x.scratch
    unfolding scratch_after
    scratch-ok =
        let places = 4 * count t in
        ap (scratch_from x) passed
        ∙ ap (λ (r : Res Made). places_from places (length x.out) r ++ drop places x.scratch) cut
        ∙ ap (λ (t : Bool). pick t (m.roster ++ replicate (places - length m.roster) 0) (replicate places 0) ++ drop places x.scratch) room

    pub file-ok : file_of x ≡ m.bytes
    unfolding over
    file-ok =
        ap₂ (λ (a : Answer) (b : Bytes). take a.length b) answer_ok out-ok ∙ take_at m.bytes (drop (length m.bytes) x.out) (length m.bytes) refl

    roster-ok : roster_of x ≡ m.roster
    roster-ok =
        ap₂ (λ (a : Answer) (s : List ℕ). take a.kept s) answer_ok (scratch-ok ∙ append_assoc m.roster _ _) ∙ take_at m.roster _ (length m.roster) refl

-- what is made of a cut; the same with the roster in other numbers
abbrev pub made_of : CutFont → Made
made_of c = record { roster = c.roster; bytes = file (entries c.tables) }

abbrev pub rename_made : (ℕ → ℕ) → Made → Made
rename_made old m = record { roster = map old m.roster; bytes = m.bytes }

-- two calls that make the same, but for the roster's numbers
module _ (first x y : Input) (s t : Tables) (rx : ready x ≡ ok s) (ry : ready y ≡ ok t) (room : length x.out ≡ length y.out) where
  abbrev old : ℕ → ℕ
  old k = get_or (roster_of first) k 0

  -- nothing is delivered
  nothing : (a : Answer) → answer x ≡ a → answer y ≡ a → a.kept ≡ 0 → (a.refusal ≡ 0 → a.length ≡ 0) → Same first x y
  nothing a ex ey k l =
      record {
        answers = ex ∙ sym ey;
        files =
            λ e.
            let z = l (ap (λ (a : Answer). a.refusal) (sym ey) ∙ e) in
            ap (λ (n : ℕ). take n (out_after x)) (ap (λ (a : Answer). a.length) ex ∙ z) ∙ sym (ap (λ (n : ℕ). take n (out_after y)) (ap (λ (a : Answer). a.length) ey ∙ z));
        rosters =
            ap (λ (n : ℕ). map old (take n (scratch_after x))) (ap (λ (a : Answer). a.kept) ex ∙ k)
            ∙ sym (ap (λ (n : ℕ). take n (scratch_after y)) (ap (λ (a : Answer). a.kept) ey ∙ k));
      }

  pub ends-alike : made t y.ids ≡ map_res (rename_made old) (made s x.ids) → Same first x y
  ends-alike same = go (made s x.ids) refl same
    where
      delivers : (m : Made) → made s x.ids ≡ ok m → made t y.ids ≡ ok (rename_made old m) → (b : Bool) → leb (length m.bytes) (length x.out) ≡ b → Same first x y
      delivers m ex ey true q =
          let p = ap (leb (length m.bytes)) (sym room) ∙ q in
          record {
            answers =
                answer_ok x s rx m ex q
                ∙ (λ i. record { refusal = 0; kept = sym (length-map m.roster old) i; length = length m.bytes })
                ∙ sym (answer_ok y t ry (rename_made old m) ey p);
            files = λ _. file-ok x s rx m ex q ∙ sym (file-ok y t ry (rename_made old m) ey p);
            rosters = ap (map old) (roster-ok x s rx m ex q) ∙ sym (roster-ok y t ry (rename_made old m) ey p);
          }
      delivers m ex ey false q =
          nothing (delivered false m)
          (answer-is x s rx ∙ ap (last (length x.out)) ex ∙ ap (λ (b : Bool). delivered b m) q)
          (answer-is y t ry ∙ ap (last (length y.out)) ey ∙ ap (λ (b : Bool). delivered b (rename_made old m)) (ap (leb (length m.bytes)) (sym room) ∙ q))
          refl (λ e. absurd (omega (arith, e)))

      go : (r : Res Made) → made s x.ids ≡ r → made t y.ids ≡ map_res (rename_made old) r → Same first x y
      go (refuse k) ex ey =
          nothing (record { refusal = k; kept = 0; length = 0 })
          (answer-is x s rx ∙ ap (last (length x.out)) ex) (answer-is y t ry ∙ ap (last (length y.out)) ey) refl (λ _. refl)
      go (ok m) ex ey = delivers m ex ey (leb (length m.bytes) (length x.out)) refl

pub ready-ok : (x : Input) (t : Tables) → read x.font x.index ≡ ok t → 4 * count t ≤ length x.scratch → ready x ≡ ok t
unfolding ready
ready-ok x t r h = bind_ok _ _ r (need-ok _ _ _ (le-leb (4 * count t) (length x.scratch) h) refl)

pub ready_inv : (x : Input) (t : Tables) → ready x ≡ ok t → (read x.font x.index ≡ ok t) × (4 * count t ≤ length x.scratch)
unfolding ready
ready_inv x t e =
    let s = bind_inv (read x.font x.index) _ t e in
    let q = need_inv 8 (leb (4 * count s.value) (length x.scratch)) _ t s.then in
    (s.first ∙ q.1, subst (λ (u : Tables). 4 * count u ≤ length x.scratch) (ok_inj q.1) (leb-true (4 * count s.value) (length x.scratch) q.0))

pub scratch_of : (x : Input) (t : Tables) → ready x ≡ ok t → ScratchEnough x
scratch_of x t e u r = let q = ready_inv x t e in subst (λ (u : Tables). 4 * count u ≤ length x.scratch) (ok_inj (sym q.0 ∙ r)) q.1

-- the file is not too long, on either side
pub made-same : (t s : Tables) (ids₀ ids₂ : List ℕ) (old : ℕ → ℕ) → cut_tables t ids₀ ≡ map_res (rename old) (cut_tables s ids₂)
    → made t ids₀ ≡ map_res (rename_made old) (made s ids₂)
unfolding made
made-same t s ids₀ ids₂ old e = ap {B = Res Made} (λ m. m >>= fin) e ∙ go (cut_tables s ids₂)
  where
    fin : CutFont → Res Made
    fin c = need 5 (leb (length (file (entries c.tables))) 4294967295) >> ok (made_of c)

    test : (b : Bool) (c : CutFont) → (need 5 b >> ok (made_of (rename old c))) ≡ map_res (rename_made old) (need 5 b >> ok (made_of c))
    test true c = refl
    test false c = refl

    go : (m : Res CutFont) → (map_res (rename old) m >>= fin) ≡ map_res (rename_made old) (m >>= fin)
    go (refuse k) = refl
    go (ok c) = test (leb (length (file (entries c.tables))) 4294967295) c

-- a call that succeeded
pub record Won (x : Input) : Type 0 where
  pub tables : Tables
  pub font : CutFont
  pub passed : ready x ≡ ok tables
  pub makes : made tables x.ids ≡ ok (made_of font)
  pub room : length (file (entries font.tables)) ≤ length x.out
  pub cuts : cut_tables tables x.ids ≡ ok font
  pub fits : length (file (entries font.tables)) ≤ 4294967295
  pub answers : answer x ≡ delivered true (made_of font)
  pub roster : roster_of x ≡ font.roster
  pub file : file_of x ≡ file (entries font.tables)

pub won : (x : Input) → (answer x).refusal ≡ 0 → Won x
unfolding made
won x e =
    let s = (refusals x).success e in
    let t = s.tables in
    let q = bind_inv (cut_tables t x.ids) _ s.result s.cut in
    let c = q.value in
    let n = need_inv 5 (leb (length (file (entries c.tables))) 4294967295) _ s.result q.then in
    let is : made_of c ≡ s.result = ok_inj n.1 in
    let makes : made t x.ids ≡ ok (made_of c) = s.cut ∙ ap (λ (m : Made). ok m) (sym is) in
    let room = subst (λ (m : Made). length m.bytes ≤ length x.out) (sym is) s.room in
    let held = le-leb (length (file (entries c.tables))) (length x.out) room in
    record {
      tables = t;
      font = c;
      passed = s.passed;
      makes = makes;
      room = room;
      cuts = q.first;
      fits = leb-true _ 4294967295 n.0;
      answers = answer_ok x t s.passed (made_of c) makes held;
      roster = roster-ok x t s.passed (made_of c) makes held;
      file = file-ok x t s.passed (made_of c) makes held;
    }
