-- Outline k of the small font is the outline of its old glyph, renumbered and padded; so its components are the old ones, renumbered.
use mathlib.Core.Path.{◌≡◌, refl, sym, ap, ◌∙◌, subst}
use mathlib.Core.Bool.{Bool, true, false}
use mathlib.Core.Option.{Option}
use mathlib.Core.List.{List, [], ◌∷◌, map}
use Prim.Native.Nat.{ℕ, ◌+◌, ◌≤◌, ◌<◌}
use native.Mathlib.Omega.{arith}
use lib.Dec.{leb}
use lib.ListN.{length, get_or, length-append}
use borrow.Author.Tests.{leb-true}
use Rattle.model.specs.Res.{ok, pick, each, map_res}
use Rattle.model.specs.Bytes.{Bytes, be32, put, pad2, place}
use Rattle.model.proofs.Res.{EachOk, each_inv, bind_ok, bind_inv, map_inv, ok_inj}
use Rattle.model.specs.Font.{Tables}
use Rattle.model.specs.Outline.{Outline, outline, components, renumber, written}
use Rattle.model.specs.Glyf.{Width, short, long, padded, width_of, glyphs, glyph_bytes, size, new_width, new_glyf, new_loca, new_head}
use Rattle.model.specs.Metrics.{Metric, metrics}
use Rattle.model.specs.Name.{cut_name}
use Rattle.model.specs.Post.{cut_post}
use Rattle.model.specs.File.{entries, file}
use Rattle.model.specs.Cut.{count, outline_of, parts_of, piece_of, closure, optional, new_tables, CutFont, rewrite, cut_tables}
use Rattle.model.proofs.Members.{In}
use Rattle.model.proofs.Places.{get_in, place-low}
use Rattle.model.proofs.Closure.{closure-roster}
use Rattle.theorems.specs.Closure.{Copied, Closed, component}
use Rattle.theorems.specs.ReadBack.{with_head}
use Rattle.theorems.specs.Outlines.{NewOutline, NewOutlines}
use Rattle.theorems.proofs.Rosters.{roster-least}
use Rattle.model.proofs.Chosen.{under-map}
use Rattle.theorems.proofs.Outlines.{Again, again}
use Rattle.theorems.proofs.Loca.{Room, glyphs-back, glyph_back}
use Rattle.theorems.proofs.Head.{width-new, width-back}
use Rattle.theorems.proofs.ReadBack.{glyf_in-file}

-- a cut that succeeded, taken apart
pub record Taken (t : Tables) (ids r : List ℕ) : Type 0 where
  pub bs : List Bytes
  pub ms : List Metric
  pub name : Option Bytes
  pub post : Option Bytes
  pub walk : closure t ids ≡ ok r
  pub pieces : each (piece_of t (place r)) r ≡ ok bs
  pub measured : metrics t.hhea t.hmtx r ≡ ok ms
  pub named : optional cut_name t.name ≡ ok name
  pub posted : optional (λ b. cut_post b r) t.post ≡ ok post

abbrev pub tables_of : (t : Tables) (ids r : List ℕ) → Taken t ids r → Tables
tables_of t ids r f = new_tables t (length r) f.bs f.ms f.name f.post

pub record Cut (t : Tables) (ids : List ℕ) (c : CutFont) : Type 0 where
  pub taken : Taken t ids c.roster
  pub made : tables_of t ids c.roster taken ≡ c.tables

pub cut_inv : (t : Tables) (ids : List ℕ) (c : CutFont) → cut_tables t ids ≡ ok c → Cut t ids c
unfolding cut_tables rewrite
cut_inv t ids c e =
    let s₁ = bind_inv (closure t ids) _ c e in
    let r = s₁.value in
    let s₂ = bind_inv (each (piece_of t (place r)) r) _ c s₁.then in
    let s₃ = bind_inv (metrics t.hhea t.hmtx r) _ c s₂.then in
    let s₄ = bind_inv (optional cut_name t.name) _ c s₃.then in
    let s₅ = bind_inv (optional (λ b. cut_post b r) t.post) _ c s₄.then in
    subst (Cut t ids) (ok_inj s₅.then)
    (record {
      taken =
          record {
            bs = s₂.value;
            ms = s₃.value;
            name = s₄.value;
            post = s₅.value;
            walk = s₁.first;
            pieces = s₂.first;
            measured = s₃.first;
            named = s₄.first;
            posted = s₅.first;
          };
      made = refl;
    })

-- the written outlines have room in their width
length-short : (bs : List Bytes) → length (new_glyf short bs) ≡ size bs
length-short [] = refl
length-short (b ∷ bs) = length-append (pad2 b) (new_glyf short bs) ∙ ap (λ (k : ℕ). length (pad2 b) + k) (length-short bs)

room_of : (bs : List Bytes) (t : Bool) → leb (size bs) 131070 ≡ t → length (new_glyf (pick t short long) bs) < 4294967296
    → Room (pick t short long) (length (new_glyf (pick t short long) bs))
room_of bs true e h = omega (arith, length-short bs, leb-true (size bs) 131070 e)
room_of bs false e h = h

module _ (t : Tables) (ids r : List ℕ) (f : Taken t ids r) (long-head : 52 ≤ length t.head) where
  abbrev n : ℕ
  n = length r

  abbrev pub w : Width
  w = new_width (size f.bs)

  pub few : n ≤ 65535
  few = (closure-roster t ids r f.walk).size

  pieces-at : EachOk (piece_of t (place r)) r f.bs 0 []
  pieces-at = each_inv (piece_of t (place r)) r f.bs 0 [] f.pieces

  length-bs : length f.bs ≡ n
  length-bs = pieces-at.same_length

  -- glyph k's outline in the old font
  pub record Old (k : ℕ) : Type 0 where
    pub bytes : Bytes
    pub o : Outline
    pub raw : outline (count t) bytes ≡ ok o
    pub reads : outline_of t (get_or r k 0) ≡ ok o
    pub piece : written (renumber (place r) o) ≡ get_or f.bs k []
    pub kept : (c : ℕ) → In c (components o) → In c r

  closed : Closed t ids r
  closed = roster-least t ids r f.walk

  pub old-at : (k : ℕ) → k < n → Old k
  unfolding piece_of parts_of outline_of
  old-at k h =
      let g = get_or r k 0 in
      let m = map_inv (λ (o : Outline). written (renumber (place r) o)) (outline_of t g) (get_or f.bs k []) (pieces-at.at k h) in
      let b = bind_inv (glyph_bytes (width_of t.head) t.loca t.glyf g) (λ b. outline (count t) b) m.0 m.1 in
      record {
        bytes = b.value;
        o = m.0;
        raw = b.then;
        reads = m.1;
        piece = m.2;
        kept = λ c i. closed.kept c (component g c (components m.0) (closed.needed g (get_in r k h)) (ap (map_res components) m.1) i);
      }

  module _ (fits : length (new_glyf w f.bs) < 4294967296) where
    -- its bytes in the new one
    pub stands : (k : ℕ) (h : k < n) → glyph_bytes w (new_loca w 0 f.bs) (new_glyf w f.bs) k ≡ ok (padded w (written (renumber (place r) (old-at k h).o)))
    stands k h =
        glyph_back w f.bs k (omega (arith, length-bs)) (room_of f.bs (leb (size f.bs) 131070) refl fits)
        ∙ ap (λ (b : Bytes). ok (padded w b)) (sym (old-at k h).piece)

    module _ (x : ℕ) where
      -- the tables of the small file
      abbrev pub t₁ : Tables
      t₁ = with_head (put (new_head w t.head) 8 (be32 x)) (tables_of t ids r f)

      width₁ : width_of t₁.head ≡ w
      width₁ = width-back t.head long-head w x

      pub count₁ : count t₁ ≡ n
      count₁ = ap (λ (v : Width). glyphs v t₁.loca) width₁ ∙ glyphs-back w f.bs (omega (arith, length-bs, few)) ∙ length-bs

      pub again-at : (k : ℕ) (h : k < n) → Again w n (place r) (old-at k h).o
      again-at k h =
          again w (count t) n (place r) (old-at k h).bytes (old-at k h).o (omega (arith, few)) (old-at k h).raw
          (under-map n (place r) (components (old-at k h).o) (λ c i. place-low r c ((old-at k h).kept c i)))

      pub outline₁ : (k : ℕ) (h : k < n) → outline_of t₁ k ≡ ok (again-at k h).found
      unfolding outline_of
      outline₁ k h =
          bind_ok _ _ (ap (λ (v : Width). glyph_bytes v t₁.loca t₁.glyf k) width₁ ∙ stands k h)
          (ap (λ (m : ℕ). outline m (padded w (written (renumber (place r) (old-at k h).o)))) count₁ ∙ (again-at k h).reads)

      pub copied : Copied t r t₁
      unfolding parts_of
      copied =
          record {
            size = count₁;
            parts =
                λ k h.
                ap (map_res components) (outline₁ k h)
                ∙ ap (λ (z : List ℕ). ok z) (again-at k h).parts
                ∙ sym (ap (λ m. map_res (map (place r)) (map_res components m)) (old-at k h).reads);
          }

-- glyf of a file that is not too long
pub glyf-fits : (t : Tables) (ids r : List ℕ) (f : Taken t ids r) → length (file (entries (tables_of t ids r f))) ≤ 4294967295
    → length (new_glyf (new_width (size f.bs)) f.bs) < 4294967296
glyf-fits t ids r f h = omega (arith, glyf_in-file (tables_of t ids r f))

pub new_outlines : NewOutlines
new_outlines t ids c long-head e fits k h =
    let q = cut_inv t ids c e in
    let f = q.taken in
    let r = c.roster in
    let v = width-new t.head long-head (w t ids r f long-head) in
    let o = old-at t ids r f long-head k h in
    subst (λ (s : Tables). length (file (entries s)) ≤ 4294967295 → NewOutline t (record { roster = r; tables = s }) k) q.made
    (λ fits.
    record {
      outline = o.o;
      read = o.reads;
      stands =
          subst
          (λ (v : Width). glyph_bytes v (tables_of t ids r f).loca (tables_of t ids r f).glyf k ≡ ok (padded v (written (renumber (place r) o.o))))
          (sym v) (stands t ids r f long-head (glyf-fits t ids r f fits) k h);
    })
    fits
