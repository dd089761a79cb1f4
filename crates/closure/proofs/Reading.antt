-- Reading an outline: the ids read so far were offered, and with those from the place on they are all of its ids; its end is the one from the place on.
use Rattle.std.proofs.Common.{◌≡◌, refl, sym, ap, ◌∙◌, subst, Bool, Option, None, Some, List, [], ◌∷◌, ◌++◌, ℕ, ◌*◌, ◌<◌, length, drop}
use lib.Seq.{append_snoc}
use Rattle.model.specs.Res.{Res, refuse, ok, pick, map_res, value_of}
use Rattle.model.specs.Bytes.{Bytes, member}
use Rattle.model.specs.Glyf.{Width}
use Rattle.model.specs.Outline.{outline, components}
use Rattle.model.proofs.Members.{In, clash, in_here, in_there}
use Rattle.model.proofs.Thin.{without, to_top}
use Rattle.outline.specs.Places.{ids_from, end_from, kept_length, component_at, shape_of, span_at, span_bytes}
use Rattle.outline.specs.declared.Component.TheVariants as component
use Rattle.outline.specs.declared.Shape.{Shape}
use Rattle.outline.specs.declared.Span.{Span}
use Rattle.outline.proofs.Records.{ids_bad, ids_more, ids-last, end_bad, end_more, end_last, taken_more, taken-last}
use Rattle.outline.proofs.Glyphs.{parts_of_lem, parts_by, kept_by_lem, kept_by}
use Rattle.glyf.specs.Pieces.{outline_at, length_at}
use Rattle.glyf.proofs.Pieces.{outline-there, outline-nowhere, length-there, length-nowhere}
use Rattle.remapper.specs.Scratch.{offered, Linked}
use Rattle.remapper.specs.State.{Walking}
use Rattle.remapper.proofs.Waiting.{linked-offered, keeps-offered}
use Rattle.remapper.proofs.Numbering.{low_snoc, walking_offered}
use Rattle.closure.specs.Closes.{parts_in}
use Rattle.closure.specs.Turns.{offered_all, read_of, kept_of, Opened}

pub record Reading (b s₀ : List ℕ) (n : ℕ) (s : List ℕ) (at : ℕ) : Type 0 where
  pub cs : List ℕ
  pub gone : s ≡ offered_all n s₀ cs
  pub low : (c : ℕ) → In c cs → c < n
  pub left : ids_from n b 10 ≡ map_res (λ (l : List ℕ). cs ++ l) (ids_from n b at)
  pub ends : end_from n b 10 ≡ end_from n b at
  pub linked : Linked n s
  pub size : length s ≡ length s₀

map_same : (m : Res (List ℕ)) → m ≡ map_res (λ (l : List ℕ). [] ++ l) m
map_same (refuse k) = refl
map_same (ok l) = refl

map_snoc : (cs : List ℕ) (c : ℕ) (m : Res (List ℕ)) → map_res (λ (l : List ℕ). cs ++ l) (map_res (λ (l : List ℕ). c ∷ l) m) ≡ map_res (λ (l : List ℕ). (cs ++ (c ∷ [])) ++ l) m
map_snoc cs c (refuse k) = refl
map_snoc cs c (ok l) = ap ok (sym (append_snoc cs c l))

offered_all_snoc : (n : ℕ) (s cs : List ℕ) (c : ℕ) → offered_all n s (cs ++ (c ∷ [])) ≡ offered n (offered_all n s cs) c
offered_all_snoc n s [] c = refl
offered_all_snoc n s (x ∷ cs) c = offered_all_snoc n (offered n s x) cs c

module _ (b s₀ : List ℕ) (n : ℕ) (s : List ℕ) (at : ℕ) (v : Reading b s₀ n s at) where
  offered-last : (s' : List ℕ) (id : ℕ) → s' ≡ offered n s id → s' ≡ offered_all n s₀ (v.cs ++ (id ∷ []))
  offered-last s' id e = e ∙ ap (λ (t : List ℕ). offered n t id) v.gone ∙ sym (offered_all_snoc n s₀ v.cs id)

  pub reading_more : (s' : List ℕ) (id next : ℕ) → component_at n b at ≡ Some (component.More id next) → s' ≡ offered n s id → Reading b s₀ n s' next
  reading_more s' id next e q =
      record {
        cs = v.cs ++ (id ∷ []);
        gone = offered-last s' id q;
        low = low_snoc n v.cs id v.low k;
        left = v.left ∙ ap (map_res (λ (l : List ℕ). v.cs ++ l)) (ids_more n b at e) ∙ map_snoc v.cs id (ids_from n b next);
        ends = v.ends ∙ end_more n b at e;
        linked = subst (Linked n) (sym q) (linked-offered n s id k v.linked);
        size = ap length q ∙ (keeps-offered n s id k v.linked).size ∙ v.size;
      }
    where
      k : id < n
      k = (taken_more n b at e).low

  pub reading_last : (s' : List ℕ) (id next : ℕ) (keep : Bool) → component_at n b at ≡ Some (component.Last id next keep) → s' ≡ offered n s id
      → Opened n s₀ s' (ids_from n b 10) (value_of 0 (end_from n b 10)) (Some (pick keep (length b) next))
  reading_last s' id next keep e q =
      record {
        cs = v.cs ++ (id ∷ []);
        gone = offered-last s' id q;
        low = low_snoc n v.cs id v.low (taken-last n b at e).low;
        all = v.left ∙ ap (map_res (λ (l : List ℕ). v.cs ++ l)) (ids-last n b at e);
        size = ap (value_of 0) (v.ends ∙ end_last n b at e);
      }

  pub reading_bad : component_at n b at ≡ None → Opened n s₀ s (ids_from n b 10) (value_of 0 (end_from n b 10)) None
  reading_bad e =
      record {
        cs = v.cs;
        gone = v.gone;
        low = v.low;
        all = v.left ∙ ap (map_res (λ (l : List ℕ). v.cs ++ l)) (ids_bad n b at e);
        size = ap (value_of 0) (v.ends ∙ end_bad n b at e);
      }

-- an outline by its shape
pub opened-none : (n : ℕ) (s : List ℕ) (a : Option ℕ) → Opened n s s (read_of a []) (kept_of a) a
opened-none n s a = record { cs = []; gone = refl; low = λ c m. clash m refl; all = refl; size = refl }

pub opened_shape : (n : ℕ) (b s s' : List ℕ) (x : Option Shape) (a : Option ℕ) → shape_of b ≡ x → Opened n s s' (parts_by n b x) (kept_by n b x) a
    → Opened n s s' (map_res components (outline n b)) (kept_length n b) a
opened_shape n b s s' x a e v =
    subst (λ m. Opened n s s' m (kept_length n b) a) (sym (parts_of_lem n b ∙ ap (parts_by n b) e))
    (subst (λ (k : ℕ). Opened n s s' (parts_by n b x) k a) (sym (kept_by_lem n b ∙ ap (kept_by n b) e)) v)

-- a glyph by where it stands
module _ (w : Width) (n : ℕ) (loca glyf : Bytes) (g : ℕ) where
  pub opened-there : (s s' : List ℕ) (a : Option ℕ) {p : Span} → span_at w loca glyf g ≡ Some p
      → Opened n s s' (map_res components (outline n (span_bytes glyf p))) (kept_length n (span_bytes glyf p)) a
      → Opened n s s' (parts_in w n loca glyf g) (length_at w n loca glyf g) a
  unfolding parts_in outline_at
  opened-there s s' a {p} e v =
      subst (λ (k : ℕ). Opened n s s' (parts_in w n loca glyf g) k a) (sym (length-there w n loca glyf g e))
      (subst (λ m. Opened n s s' (map_res components m) (kept_length n (span_bytes glyf p)) a) (sym (outline-there w n loca glyf g e)) v)

  pub opened-nowhere : (s : List ℕ) → span_at w loca glyf g ≡ None → Opened n s s (parts_in w n loca glyf g) (length_at w n loca glyf g) None
  unfolding parts_in outline_at
  opened-nowhere s e =
      subst (λ (k : ℕ). Opened n s s (parts_in w n loca glyf g) k None) (sym (length-nowhere w n loca glyf g e))
      (subst (λ m. Opened n s s (map_res components m) 0 None) (sym (outline-nowhere w n loca glyf g e)) (opened-none n s None))

-- what the offers do to the state
pub walking_offered_all : (n : ℕ) (s r l cs : List ℕ) → Walking n s r l → ((c : ℕ) → In c cs → c < n) → Walking n (offered_all n s cs) r (to_top r cs l)
walking_offered_all n s r l [] v h = v
walking_offered_all n s r l (c ∷ cs) v h =
    walking_offered_all n (offered n s c) r (pick (member c r) l (c ∷ without c l)) cs (walking_offered n s r l v c (h c (in_here c cs))) (λ x m. h x (in_there x c cs m))

pub past-opened : (n : ℕ) (s s' : List ℕ) (m : Res (List ℕ)) (kept : ℕ) (a : Option ℕ) → Linked n s → Opened n s s' m kept a → drop (4 * n) s' ≡ drop (4 * n) s
past-opened n s s' m kept a v d = ap (drop (4 * n)) d.gone ∙ go d.cs s v d.low
  where
    go : (cs s : List ℕ) → Linked n s → ((c : ℕ) → In c cs → c < n) → drop (4 * n) (offered_all n s cs) ≡ drop (4 * n) s
    go [] s v h = refl
    go (c ∷ cs) s v h =
        go cs (offered n s c) (linked-offered n s c (h c (in_here c cs)) v) (λ x m. h x (in_there x c cs m)) ∙ (keeps-offered n s c (h c (in_here c cs)) v).past
