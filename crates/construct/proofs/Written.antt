-- The caller's way to `Ready`: tables written and padded one after the other, over any old bytes, are what stands in the output;
-- and the tables of a cut font are such a list.
use Rattle.std.proofs.Common.{◌≡◌, ℕ, zero, suc, ◌+◌, ◌-◌, ◌%◌, ◌<◌, ◌≤◌, Bool, true, false, List, [], ◌∷◌, ◌++◌, length, get_or, take, drop, replicate, sym, refl, ap, ◌∙◌, subst, ap₂, append_assoc, add-one, arith, lit<, length-append, length-take-le, drop_at}
use mathlib.Core.Option.{Option, none, some}
use Rattle.model.specs.Res.{pick}
use Rattle.model.specs.Bytes.{Bytes, put, over, pad4}
use Rattle.model.specs.Font.{Entry, Tables as Contents, CVT, FPGM, GLYF, HEAD, HHEA, HMTX, LOCA, MAXP, NAME, POST, PREP}
use Rattle.model.specs.File.{bodies, maybe, entries, file}
use Rattle.model.proofs.Bytes.{put-put, length-put}
use Rattle.places.specs.declared.Tables.{Tables}
use Rattle.places.specs.Places.{tag_words, place_at, present_at}
use Rattle.construct.specs.declared.Layout.{Layout}
use Rattle.construct.specs.Construct.{start_at, directory_length, entry_at, entries_to, laid, content_of, is_there, body_of, marks, Marked, Stands, Sized, Placed, Ready, Written, write_at, write_to}
use Rattle.construct.proofs.Files.{bodies_snoc}
use Rattle.construct.proofs.Stand.{stands-put, put_nil}
use Rattle.construct.proofs.Lists.{start-bodies, start-grows, entries-there, entries_none, entries-stand}
use Rattle.construct.proofs.Head.{length-file}
use Rattle.construct.proofs.Readiness.{first-room}

-- a body written, and padded, is the padded body
pub put_pad : (out body : Bytes) (at : ℕ) → at ≤ length out
    → put (put out at body) (at + length body) (replicate ((4 - length body % 4) % 4) 0) ≡ put out at (pad4 body)
put_pad out body at h = put-put out body (replicate ((4 - length body % 4) % 4) 0) at h

-- a table that is there: its writer leaves its bytes, and `pad` the zeros behind them; one that isn't there
pub write_there : (new : Layout) (k : ℕ) (b out o₁ o₂ : Bytes) → present_at new.tables k ≡ true → (place_at new.tables k).offset ≤ length out
    → o₁ ≡ put out (place_at new.tables k).offset b
    → o₂ ≡ put o₁ ((place_at new.tables k).offset + length b) (replicate ((4 - length b % 4) % 4) 0) → o₂ ≡ write_at new k b out
unfolding write_at
write_there new k b out o₁ o₂ t h e₁ e₂ =
    let at = (place_at new.tables k).offset in
    rw t (e₂ ∙ ap (λ (x : Bytes). put x (at + length b) (replicate ((4 - length b % 4) % 4) 0)) e₁ ∙ put_pad out b at h)

pub write_none : (new : Layout) (k : ℕ) (b out : Bytes) → present_at new.tables k ≡ false → out ≡ write_at new k b out
unfolding write_at
write_none new k b out n = rw n

module _ (new : Layout) (p : Placed new) (body : ℕ → Bytes) (sized : Sized new.tables body) (out₀ : Bytes) (room : new.end ≤ length out₀) where
  d : ℕ
  d = directory_length new.count

  inside : d ≤ length out₀
  unfolding d
  inside = let f = first-room new p in omega arith

  pub written_none : Written new body out₀ out₀ 0
  unfolding entries_to
  written_none = put_nil out₀ (directory_length new.count)

  -- a table that isn't there
  pub written_skip : (out : Bytes) (k : ℕ) → present_at new.tables k ≡ false → Written new body out₀ out k → Written new body out₀ out (k + 1)
  written_skip out k n w =
      w ∙ ap (λ (es : List Entry). put out₀ (directory_length new.count) (bodies es)) (sym (entries_none new.tables body k n))

  -- one table more, padded, at its place
  pub written_step : (out out' : Bytes) (k : ℕ) → k < 11 → present_at new.tables k ≡ true → Written new body out₀ out k
      → out' ≡ put out (place_at new.tables k).offset (pad4 (body k)) → Written new body out₀ out' (k + 1)
  unfolding d
  written_step out out' k h t w e =
      let es = entries_to new.tables body k in
      let o : (place_at new.tables k).offset ≡ d + length (bodies es) = p.offsets k h t ∙ start-bodies new.tables body sized d k (omega arith) in
      e ∙ ap₂ (λ (x : Bytes) (n : ℕ). put x n (pad4 (body k))) w o
      ∙ put-put out₀ (bodies es) (pad4 (body k)) d inside
      ∙ ap (put out₀ d) (sym (bodies_snoc es (get_or tag_words k 0) (body k)) ∙ ap bodies (sym (entries-there new.tables body k t)))

  pub length-written : (out : Bytes) (k : ℕ) → k ≤ 11 → Written new body out₀ out k → length out ≡ length out₀
  unfolding d
  length-written out k h w =
      let b = start-bodies new.tables body sized d k h in
      let g = start-grows new.tables d k 11 h in
      let e = p.ends in
      ap length w ∙ length-put out₀ d (bodies (entries_to new.tables body k)) (omega arith)

  pub written_at : (out : Bytes) (k : ℕ) → k < 11 → Written new body out₀ out k → Written new body out₀ (write_at new k (body k) out) (k + 1)
  written_at out k h w = go (present_at new.tables k) refl
    where
      go : (b : Bool) → present_at new.tables k ≡ b → Written new body out₀ (write_at new k (body k) out) (k + 1)
      go true t = written_step out (write_at new k (body k) out) k h t w (unfold write_at in rw t)
      go false n = sym (write_none new k (body k) out n) ∙ written_skip out k n w

  -- the first k tables, one after the other
  pub written_to : (k : ℕ) → k ≤ 11 → Written new body out₀ (write_to new body out₀ k) k
  unfolding write_to
  written_to zero h = written_none
  written_to (suc k) h = rw add-one at (written_at (write_to new body out₀ k) k h (written_to k (omega arith)))

  module _ (out : Bytes) (w : Written new body out₀ out 11) where
    all-stands : Stands out d (bodies (entries_to new.tables body 11))
    unfolding d
    all-stands = subst (λ (x : Bytes). Stands x d (bodies (entries_to new.tables body 11))) (sym w) (stands-put out₀ d (bodies (entries_to new.tables body 11)) inside)

    -- all tables are written: they are what stands in the output
    pub written-laid : laid out new.tables ≡ entries_to new.tables body 11
    unfolding laid d
    written-laid = entries-stand new.tables body sized out d p.offsets 11 (omega arith) all-stands

    pub written-ready : new.end ≤ 4294967295 → present_at new.tables 3 ≡ true → 12 ≤ (place_at new.tables 3).length → Ready out new
    unfolding d
    written-ready small head long =
        record {
          placed = p;
          stands = subst (λ (es : List Entry). Stands out d (bodies es)) (sym written-laid) all-stands;
          room = fits;
          small = small;
          head = head;
          long = long;
        }
      where
        fits : new.end ≤ length out
        fits = let l = length-written out 11 (omega arith) w in omega arith

    -- the rest of the output is as it was
    pub written-rest : (bytes : Bytes) → length bytes ≡ new.end → over bytes out ≡ over bytes out₀
    unfolding over put d
    written-rest bytes e =
        let bs = bodies (entries_to new.tables body 11) in
        let n : length bytes ≡ d + length bs = e ∙ p.ends ∙ start-bodies new.tables body sized d 11 (omega arith) in
        let front : length (take d out₀ ++ bs) ≡ d + length bs = simp (length-append, length-take-le d out₀ inside) in
        ap (λ (z : Bytes). bytes ++ z)
        (ap₂ (λ (m : ℕ) (x : Bytes). drop m x) n w ∙ drop_at (take d out₀ ++ bs) (drop (d + length bs) out₀) (d + length bs) front
        ∙ ap (λ (m : ℕ). drop m out₀) (sym n))

-- the file's length, before it is written
pub file_end : (new : Layout) → Placed new → (body : ℕ → Bytes) → Sized new.tables body → present_at new.tables 3 ≡ true
    → 12 ≤ (place_at new.tables 3).length → length (file (entries_to new.tables body 11)) ≡ new.end
file_end new p body sized head long =
    length-file new.tables body sized head long
    ∙ ap (λ (n : ℕ). start_at (directory_length n) new.tables 11) (sym p.counts) ∙ sym p.ends

maybe-pick : (b : Bool) (tag : ℕ) (o : Option Bytes) → b ≡ is_there o → pick b ((tag, content_of o) ∷ []) [] ≡ maybe tag o
maybe-pick b tag none e = rw e
maybe-pick b tag (some x) e = rw e

module _ (c : Contents) (t : Tables) (m : Marked c t) where
  entry_of : (k tag : ℕ) (o : Option Bytes) → get_or tag_words k 0 ≡ tag → body_of c k ≡ content_of o → present_at t k ≡ is_there o
      → entry_at t (body_of c) k ≡ maybe tag o
  unfolding entry_at
  entry_of k tag o et eb ep =
      ap₂ (λ (n : ℕ) (b : Bytes). pick (present_at t k) ((n, b) ∷ []) []) et eb ∙ maybe-pick (present_at t k) tag o ep

  -- the tables of a cut font are such a list
  pub entries_of : entries c ≡ entries_to t (body_of c) 11
  unfolding entries entries_to body_of marks
  entries_of =
      simp (
        append_assoc,
        entry_of 0 CVT c.cvt refl refl (m 0 (lit< tt)),
        entry_of 1 FPGM c.fpgm refl refl (m 1 (lit< tt)),
        entry_of 2 GLYF (some c.glyf) refl refl (m 2 (lit< tt)),
        entry_of 3 HEAD (some c.head) refl refl (m 3 (lit< tt)),
        entry_of 4 HHEA (some c.hhea) refl refl (m 4 (lit< tt)),
        entry_of 5 HMTX (some c.hmtx) refl refl (m 5 (lit< tt)),
        entry_of 6 LOCA (some c.loca) refl refl (m 6 (lit< tt)),
        entry_of 7 MAXP (some c.maxp) refl refl (m 7 (lit< tt)),
        entry_of 8 NAME c.name refl refl (m 8 (lit< tt)),
        entry_of 9 POST c.post refl refl (m 9 (lit< tt)),
        entry_of 10 PREP c.prep refl refl (m 10 (lit< tt)),
      )

-- All together, for tables c: what `finish` leaves is the file of c over the output as it was, and its length is the layout's end.
module _ (c : Contents) (new : Layout) (p : Placed new) (m : Marked c new.tables) (sized : Sized new.tables (body_of c)) (long : 12 ≤ (place_at new.tables 3).length) where
  pub head-there : present_at new.tables 3 ≡ true
  unfolding marks
  head-there = m 3 (lit< tt)

  pub length_cut : length (file (entries c)) ≡ new.end
  length_cut = ap (λ (es : List Entry). length (file es)) (entries_of c new.tables m) ∙ file_end new p (body_of c) sized head-there long

  -- `out` is `write_to new (body_of c) out₀ 11` (`written_to`)
  pub finish-cut : (out₀ out : Bytes) → new.end ≤ length out₀ → Written new (body_of c) out₀ out 11
      → over (file (laid out new.tables)) out ≡ over (file (entries c)) out₀
  finish-cut out₀ out room w =
      ap (λ (es : List Entry). over (file es) out) (written-laid new p (body_of c) sized out₀ room out w ∙ sym (entries_of c new.tables m))
      ∙ written-rest new p (body_of c) sized out₀ room out w (file (entries c)) length_cut
