-- Cutting twice, on tables: each step of the second cut finds at a new number in the new tables what the direct cut finds at the old number in the old.
use mathlib.Core.Path.{◌≡◌, refl, sym, ap, ap₂, ◌∙◌, subst}
use mathlib.Core.Bool.{Bool, true, false}
use mathlib.Core.Option.{Option, none, some}
use mathlib.Core.List.{List, [], ◌∷◌, ◌++◌, map}
use Prim.Native.Nat.{ℕ, ◌+◌, ◌/◌, ◌%◌, ◌≤◌, ◌<◌}
use native.Mathlib.Omega.{arith}
use lib.Dec.{leb}
use lib.ListN.{length, get_or, take, drop, length-map, get_or-map}
use borrow.Author.Tests.{le-leb, leb-true}
use Rattle.model.specs.Res.{Res, refuse, ok, pick, each, map_res, ◌>>=◌}
use Rattle.model.specs.Bytes.{Bytes, be16, pad2, sum, place}
use Rattle.model.proofs.Res.{Under, each-known, each_map, bind_ok, bind_inv, ok_inj}
use Rattle.model.specs.Font.{Tables}
use Rattle.model.specs.Outline.{Outline, empty, simple, composite, components, renumber, written, renumber_record, id_of}
use Rattle.model.specs.Glyf.{Width, short, long, padded, size, new_width, new_glyf, new_loca, new_head, be_entry, unit}
use Rattle.model.specs.Metrics.{Metric, new_count, new_hmtx}
use Rattle.model.specs.Name.{cut_name}
use Rattle.model.specs.Post.{cut_post}
use Rattle.model.specs.Cut.{outline_of, piece_of, closure, new_maxp, optional, new_tables, CutFont, rewrite, cut_tables}
use Rattle.model.proofs.Members.{In, in_here, in_there, in_under, under_in}
use Rattle.model.proofs.Start.{Once}
use Rattle.model.proofs.Places.{get-place, place-low}
use Rattle.model.proofs.Closure.{closure-roster}
use Rattle.theorems.specs.Twice.{AreBytes, NoneMissing}
use Rattle.theorems.proofs.Renumber.{walk-twice}
use Rattle.model.proofs.Chosen.{get_inj, place_map, sum_chosen}
use Rattle.theorems.proofs.Outlines.{length-renumber, length-pad2}
use Rattle.theorems.proofs.Metrics.{metrics-direct, metrics-again, hhea-twice}
use Rattle.theorems.proofs.Name.{name-twice}
use Rattle.theorems.proofs.Post.{post-twice}
use Rattle.theorems.proofs.Head.{head-twice}
use Rattle.theorems.proofs.Pieces.{Taken, w, few, old-at, t₁, count₁, again-at, outline₁, copied}

-- the same cut, its roster in other numbers
abbrev pub rename : (ℕ → ℕ) → CutFont → CutFont
rename old c = record { roster = map old c.roster; tables = c.tables }

-- new ids that agree on an outline's components
renumber_agree : (f g : ℕ → ℕ) (o : Outline) → ((c : ℕ) → In c (components o) → f c ≡ g c) → renumber f o ≡ renumber g o
renumber_agree f g empty a = refl
renumber_agree f g (simple b) a = refl
renumber_agree f g (composite h rs t) a = ap (λ (l : List Bytes). composite h l t) (records rs a)
  where
    records : (rs : List Bytes) → ((c : ℕ) → In c (map id_of rs) → f c ≡ g c) → map (renumber_record f) rs ≡ map (renumber_record g) rs
    records [] a = refl
    records (r ∷ rs) a =
        ap₂ (λ (x : ℕ) (l : List Bytes). (take 2 r ++ (be16 x ++ drop 4 r)) ∷ l) (a (id_of r) (in_here (id_of r) (map id_of rs)))
        (records rs (λ c i. a c (in_there c (id_of r) (map id_of rs) i)))

-- an outline that is known to be read
abbrev outline_at : Res Outline → Outline
outline_at (refuse k) = empty
outline_at (ok o) = o

known : (f : Outline → Bytes) (m : Res Outline) (o : Outline) → m ≡ ok o → map_res f m ≡ ok (f (outline_at m))
known f m o e = ap (map_res f) e ∙ sym (ap (λ (z : Res Outline). ok (f (outline_at z))) e)

-- Equal up to padding in one width, equal in the other: short stays short
pad2_of : (w : Width) (a b : Bytes) → padded w a ≡ padded w b → pad2 a ≡ pad2 b
pad2_of short a b e = e
pad2_of long a b e = ap pad2 e

padded_in : (a b : ℕ) (x y : Bytes) → b ≤ a → padded (new_width a) x ≡ padded (new_width a) y → padded (new_width b) x ≡ padded (new_width b) y
padded_in a b x y h e = go (leb a 131070) refl e
  where
    go : (t : Bool) → leb a 131070 ≡ t → padded (pick t short long) x ≡ padded (pick t short long) y → padded (new_width b) x ≡ padded (new_width b) y
    go true q d = rw (le-leb b 131070 (omega (arith, leb-true a 131070 q))) d
    go false q d = ap (padded (new_width b)) d

module _ (n : ℕ) (f g : ℕ → Bytes) where
  size_same : (rs : List ℕ) → Under n rs → ((j : ℕ) → j < n → pad2 (f j) ≡ pad2 (g j)) → size (map f rs) ≡ size (map g rs)
  size_same [] u h = refl
  size_same (r ∷ rs) u h = ap₂ (λ (b : Bytes) (k : ℕ). length b + k) (h r u.0) (size_same rs u.1 h)

  module _ (v : Width) (h : (j : ℕ) → j < n → padded v (f j) ≡ padded v (g j)) where
    glyf-same : (rs : List ℕ) → Under n rs → new_glyf v (map f rs) ≡ new_glyf v (map g rs)
    glyf-same [] u = refl
    glyf-same (r ∷ rs) u = ap₂ (λ (a b : Bytes). a ++ b) (h r u.0) (glyf-same rs u.1)

    loca-same : (at : ℕ) (rs : List ℕ) → Under n rs → new_loca v at (map f rs) ≡ new_loca v at (map g rs)
    loca-same at [] u = refl
    loca-same at (r ∷ rs) u =
        ap (λ (b : Bytes). be_entry v (at / unit v) ++ new_loca v (at + length b) (map f rs)) (h r u.0)
        ∙ ap (λ (z : Bytes). be_entry v (at / unit v) ++ z) (loca-same (at + length (padded v (g r))) rs u.1)

size-at : (n : ℕ) (f : ℕ → Bytes) (bs : List Bytes) (rs : List ℕ) → Under n rs → ((j : ℕ) → j < n → length (f j) ≡ length (get_or bs j []))
    → size (map f rs) ≡ sum (map (λ j. get_or (map (λ b. length (pad2 b)) bs) j 0) rs)
size-at n f bs [] u h = refl
size-at n f bs (r ∷ rs) u h =
    ap₂ (λ (a b : ℕ). a + b)
    (length-pad2 (f r) ∙ ap (λ (k : ℕ). k + k % 2) (h r u.0) ∙ sym (length-pad2 (get_or bs r [])) ∙ sym (get_or-map (λ (b : Bytes). length (pad2 b)) bs r []))
    (size-at n f bs rs u.1 h)

-- an absent table stays absent
name-optional : (o o' : Option Bytes) → optional cut_name o ≡ ok o' → optional cut_name o' ≡ ok o'
name-optional none o' e = subst {A = Option Bytes} (λ z. optional cut_name z ≡ ok z) (ok_inj e) refl
name-optional (some b) o' e =
    let s = bind_inv (cut_name b) _ o' e in
    subst {A = Option Bytes} (λ z. optional cut_name z ≡ ok z) (ok_inj s.then) (bind_ok _ _ (name-twice b s.value s.first) refl)

post-optional : (o o' : Option Bytes) (r r₂ : List ℕ) → optional (λ b. cut_post b r) o ≡ ok o' → length r < 65536
    → ((b : Bytes) → o ≡ some b → NoneMissing b r) → Under (length r) r₂
    → optional (λ b. cut_post b r₂) o' ≡ optional (λ b. cut_post b (map (λ j. get_or r j 0) r₂)) o
post-optional none o' r r₂ e l full u = subst {A = Option Bytes} (λ z. optional (λ b. cut_post b r₂) z ≡ ok none) (ok_inj e) refl
post-optional (some b) o' r r₂ e l full u =
    let s = bind_inv (cut_post b r) _ o' e in
    subst {A = Option Bytes} (λ z. optional (λ b. cut_post b r₂) z ≡ optional (λ b. cut_post b (map (λ j. get_or r j 0) r₂)) (some b)) (ok_inj s.then)
    (ap {B = Res (Option Bytes)} (λ m. m >>= λ c. ok (some c)) (post-twice b s.value r r₂ l s.first (full b refl) u))

bind_rename : (old : ℕ → ℕ) (m : Res (Option Bytes)) (k l : Option Bytes → CutFont) → ((p : Option Bytes) → k p ≡ rename old (l p))
    → (m >>= λ p. ok (k p)) ≡ map_res (rename old) (m >>= λ p. ok (l p))
bind_rename old (refuse e) k l h = refl
bind_rename old (ok p) k l h = ap {A = CutFont} {B = Res CutFont} (λ z. ok z) (h p)

module _ (t : Tables) (ids r : List ℕ) (f : Taken t ids r) (long-head : 52 ≤ length t.head)
    (fits : length (new_glyf (w t ids r f long-head) f.bs) < 4294967296) (x : ℕ)
    (hhea36 : length t.hhea ≡ 36) (bytes : AreBytes t.hmtx) (full : (b : Bytes) → t.post ≡ some b → NoneMissing b r) where
  abbrev n : ℕ
  n = length r

  abbrev old : ℕ → ℕ
  old j = get_or r j 0

  -- the small font's tables
  abbrev s : Tables
  s = t₁ t ids r f long-head fits x

  abbrev v : Width
  v = w t ids r f long-head

  abbrev most : n ≤ 65535
  most = few t ids r f long-head

  nonempty : 0 < n
  nonempty = omega (arith, place-low r 0 (closure-roster t ids r f.walk).zeroth)

  module _ (r₂ : List ℕ) (under : Under n r₂) (once : Once r₂) where
    new : ℕ → ℕ
    new = place (map old r₂)

    -- piece j of the cut of the small font, and of the direct cut
    again : ℕ → Bytes
    again j = written (renumber (place r₂) (outline_at (outline_of s j)))

    direct : ℕ → Bytes
    direct j = written (renumber new (outline_at (outline_of t (old j))))

    pieces-again : each (piece_of s (place r₂)) r₂ ≡ ok (map again r₂)
    unfolding piece_of again
    pieces-again =
        each-known n (piece_of s (place r₂)) again r₂ under
        (λ j h. known (λ (o : Outline). written (renumber (place r₂) o)) (outline_of s j) _ (outline₁ t ids r f long-head fits x j h))

    pieces-direct : each (piece_of t new) (map old r₂) ≡ ok (map direct r₂)
    unfolding piece_of direct
    pieces-direct =
        each_map (piece_of t new) old r₂
        ∙ each-known n (λ j. piece_of t new (old j)) direct r₂ under
        (λ j h. known (λ (o : Outline). written (renumber new o)) (outline_of t (old j)) _ (old-at t ids r f long-head j h).reads)

    -- a component's number among the second roster's is that of its first number
    agree : (c : ℕ) → In c r → place r₂ (place r c) ≡ new c
    unfolding new
    agree c i =
        sym (ap (place (map old r₂)) (sym (get-place r c i)) ∙ place_map old n (get_inj r (closure-roster t ids r f.walk).once) r₂ under (place r c) (place-low r c i))

    padded-same : (j : ℕ) → j < n → padded v (again j) ≡ padded v (direct j)
    unfolding again direct
    padded-same j h =
        let o = old-at t ids r f long-head j h in
        ap (λ (m : Res Outline). padded v (written (renumber (place r₂) (outline_at m)))) (outline₁ t ids r f long-head fits x j h)
        ∙ (again-at t ids r f long-head fits x j h).writes (place r₂)
        ∙ ap (λ (o : Outline). padded v (written o)) (renumber_agree (λ c. place r₂ (place r c)) new o.o (λ c i. agree c (o.kept c i)))
        ∙ sym (ap (λ (m : Res Outline). padded v (written (renumber new (outline_at m)))) o.reads)

    length-direct : (j : ℕ) → j < n → length (direct j) ≡ length (get_or f.bs j [])
    unfolding direct
    length-direct j h =
        let o = old-at t ids r f long-head j h in
        ap (λ (m : Res Outline). length (written (renumber new (outline_at m)))) o.reads ∙ length-renumber new (place r) o.o ∙ ap length o.piece

    size_less : size (map direct r₂) ≤ size f.bs
    size_less =
        subst (λ (k : ℕ). k ≤ size f.bs) (sym (size-at n direct f.bs r₂ under length-direct)) (sum_chosen (map (λ b. length (pad2 b)) f.bs) r₂ once)

    sizes : size (map again r₂) ≡ size (map direct r₂)
    sizes = size_same n again direct r₂ under (λ j h. pad2_of v (again j) (direct j) (padded-same j h))

    abbrev w₂ : Width
    w₂ = new_width (size (map direct r₂))

    final : (j : ℕ) → j < n → padded w₂ (again j) ≡ padded w₂ (direct j)
    final j h = padded_in (size f.bs) (size (map direct r₂)) (again j) (direct j) size_less (padded-same j h)

    abbrev ms₂ : List Metric
    ms₂ = map (λ j. get_or f.ms j (0, 0)) r₂

    tables-same : (p : Option Bytes)
        → new_tables t (length (map old r₂)) (map direct r₂) ms₂ f.name p ≡ new_tables s (length r₂) (map again r₂) ms₂ f.name p
    tables-same p =
        sym
        (λ i.
        record {
          cvt = t.cvt;
          fpgm = t.fpgm;
          glyf = (ap (λ (k : ℕ). new_glyf (new_width k) (map again r₂)) sizes ∙ glyf-same n again direct w₂ final r₂ under) i;
          head = (ap (λ (k : ℕ). new_head (new_width k) s.head) sizes ∙ head-twice t.head long-head v w₂ x) i;
          hhea = hhea-twice t.hhea (new_count f.ms) (new_count ms₂) (omega arith) i;
          hmtx = new_hmtx (new_count ms₂) ms₂;
          loca = (ap (λ (k : ℕ). new_loca (new_width k) 0 (map again r₂)) sizes ∙ loca-same n again direct w₂ final 0 r₂ under) i;
          maxp = new_maxp t.maxp (sym (length-map r₂ old) i);
          name = f.name;
          post = p;
          prep = t.prep;
        })

    abbrev cut_font : Tables → List ℕ → List Bytes → Option Bytes → CutFont
    cut_font u roster bs p = record { roster = roster; tables = new_tables u (length roster) bs ms₂ f.name p }

    rewrite-again : rewrite s r₂ ≡ (optional (λ b. cut_post b r₂) f.post >>= λ p. ok (cut_font s r₂ (map again r₂) p))
    unfolding rewrite
    rewrite-again =
        bind_ok _ _ pieces-again
        (bind_ok _ _ (metrics-again t.hhea t.hmtx r f.ms f.measured bytes hhea36 nonempty (omega (arith, most)) r₂ under)
        (bind_ok _ _ (name-optional t.name f.name f.named) refl))

    rewrite-direct : rewrite t (map old r₂) ≡ (optional (λ b. cut_post b (map old r₂)) t.post >>= λ p. ok (cut_font t (map old r₂) (map direct r₂) p))
    unfolding rewrite new
    rewrite-direct =
        bind_ok _ _ pieces-direct
        (bind_ok _ _ (metrics-direct t.hhea t.hmtx r f.ms f.measured r₂ under) (bind_ok _ _ f.named refl))

    rewrite-same : rewrite t (map old r₂) ≡ map_res (rename old) (rewrite s r₂)
    rewrite-same =
        rewrite-direct
        ∙ ap {B = Res CutFont} (λ m. m >>= λ p. ok (cut_font t (map old r₂) (map direct r₂) p))
        (sym (post-optional t.post f.post r r₂ f.posted (omega (arith, most)) full under))
        ∙ bind_rename old (optional (λ b. cut_post b r₂) f.post) (cut_font t (map old r₂) (map direct r₂)) (cut_font s r₂ (map again r₂))
        (λ p i. record { roster = map old r₂; tables = tables-same p i })
        ∙ sym (ap (map_res (rename old)) rewrite-again)

  -- asking the small font for new numbers, and the original for the old ones
  pub cut-same : (ids₂ : List ℕ) → Under n ids₂ → cut_tables t (map old ids₂) ≡ map_res (rename old) (cut_tables s ids₂)
  unfolding cut_tables
  cut-same ids₂ asked =
      ap {B = Res CutFont} (λ m. m >>= λ roster. rewrite t roster)
      (walk-twice t s ids r f.walk (copied t ids r f long-head fits x) ids₂ (under_in n ids₂ asked))
      ∙ go (closure s ids₂) refl
    where
      go : (m : Res (List ℕ)) → closure s ids₂ ≡ m → (map_res (map old) m >>= λ roster. rewrite t roster) ≡ map_res (rename old) (m >>= λ roster. rewrite s roster)
      go (refuse k) e = refl
      go (ok r₂) e =
          let q = closure-roster s ids₂ r₂ e in
          rewrite-same r₂ (in_under n r₂ (λ g i. omega (arith, q.within g i, count₁ t ids r f long-head fits x))) q.once
