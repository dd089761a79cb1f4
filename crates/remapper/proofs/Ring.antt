-- A ring of links, over any previous and next links p and f: taking one out and putting one in.
use Rattle.std.proofs.Common.{ℕ, ◌<◌, false, List, [], ◌∷◌, ◌⊎◌, inl, inr, ⊎_elim, ◌≡◌, refl, sym, ap, ◌∙◌, subst, eqb, eqb-true}
use borrow.Author.Tests.{eqb-false}
use Rattle.model.specs.Bytes.{member}
use Rattle.model.proofs.Members.{In, by, clash, in_here, in_there, in_cons, in_eq}
use Rattle.model.proofs.Thin.{without}
use Rattle.model.proofs.Start.{Once, out_of, without-out}
use Rattle.remapper.specs.State.{Links}

-- only the links of a, l and e matter
pub frame : (p f p' f' : ℕ → ℕ) (a : ℕ) (l : List ℕ) (e : ℕ) → Links p f a l e
    → ((x : ℕ) → (x ≡ a) ⊎ In x l → f' x ≡ f x) → ((x : ℕ) → (x ≡ e) ⊎ In x l → p' x ≡ p x) → Links p' f' a l e
frame p f p' f' a [] e h hf hp = (hf a (inl refl) ∙ h.0, hp e (inl refl) ∙ h.1)
frame p f p' f' a (g ∷ l) e h hf hp = (
  hf a (inl refl) ∙ h.0,
  hp g (inr (in_here g l)) ∙ h.1,
  frame p f p' f' g l e h.2
      (λ x k. hf x (inr (⊎_elim (λ q. in_eq (g ∷ l) q (in_here g l)) (in_there x g l) k)))
      (λ x k. hp x (⊎_elim inl (λ q. inr (in_there x g l q)) k)),
)

-- the first link may come from another place
pub rehead : (p f p' f' : ℕ → ℕ) (a b : ℕ) (l : List ℕ) (e : ℕ) → Links p f a l e → Once l → member e l ≡ false
    → f' b ≡ f a → p' (f a) ≡ b → ((x : ℕ) → In x l → f' x ≡ f x) → ((x : ℕ) → (x ≡ e) ⊎ In x l → (x ≡ f a → ⊥) → p' x ≡ p x) → Links p' f' b l e
rehead p f p' f' a b [] e h o z q r hf hp = (q ∙ h.0, subst (λ (t : ℕ). p' t ≡ b) h.0 r)
rehead p f p' f' a b (g ∷ l) e h o z q r hf hp = (
  q ∙ h.0,
  subst (λ (t : ℕ). p' t ≡ b) h.0 r,
  frame p f p' f' g l e h.2
      (λ x k. hf x (⊎_elim (λ t. in_eq (g ∷ l) t (in_here g l)) (in_there x g l) k))
      (λ x k. hp x (⊎_elim inl (λ t. inr (in_there x g l t)) k) (λ t. apart x (t ∙ h.0) k)),
)
  where
    apart : (x : ℕ) → x ≡ g → (x ≡ e) ⊎ In x l → ⊥
    apart x t (inl k) = clash (subst (λ (y : ℕ). In y (g ∷ l)) (sym t ∙ k) (in_here g l)) z
    apart x t (inr k) = clash (subst (λ (y : ℕ). In y l) t k) o.0

-- what a member's neighbours say of it
pub between : (p f : ℕ → ℕ) (a : ℕ) (l : List ℕ) (e c : ℕ) → Links p f a l e → In c l → (f (p c) ≡ c) × (p (f c) ≡ c)
between p f a [] e c h k = clash k refl
between p f a (g ∷ l) e c h k = ⊎_elim (λ q. subst (λ (t : ℕ). (f (p t) ≡ t) × (p (f t) ≡ t)) (sym q) (ap f h.1 ∙ h.0, ahead l h.2)) (between p f g l e c h.2) (in_cons c g l k)
  where
    ahead : (l : List ℕ) → Links p f g l e → p (f g) ≡ g
    ahead [] m = ap p m.0 ∙ m.1
    ahead (x ∷ l) m = ap p m.0 ∙ m.1

-- a member's links stay among a, l and e
pub neighbours : (p f : ℕ → ℕ) (a : ℕ) (l : List ℕ) (e c : ℕ) → Links p f a l e → In c l → ((p c ≡ a) ⊎ In (p c) l) × ((f c ≡ e) ⊎ In (f c) l)
neighbours p f a [] e c h k = clash k refl
neighbours p f a (g ∷ l) e c h k =
    ⊎_elim
    (λ q. subst (λ (t : ℕ). ((p t ≡ a) ⊎ In (p t) (g ∷ l)) × ((f t ≡ e) ⊎ In (f t) (g ∷ l))) (sym q) (inl h.1, ahead l h.2))
    (λ q. lift (neighbours p f g l e c h.2 q))
    (in_cons c g l k)
  where
    ahead : (l : List ℕ) → Links p f g l e → (f g ≡ e) ⊎ In (f g) (g ∷ l)
    ahead [] m = inl m.0
    ahead (x ∷ l) m = inr (subst (λ (t : ℕ). In t (g ∷ x ∷ l)) (sym m.0) (in_there x g (x ∷ l) (in_here x l)))

    lift : ((p c ≡ g) ⊎ In (p c) l) × ((f c ≡ e) ⊎ In (f c) l) → ((p c ≡ a) ⊎ In (p c) (g ∷ l)) × ((f c ≡ e) ⊎ In (f c) (g ∷ l))
    lift m = (
      ⊎_elim (λ q. inr (in_eq (g ∷ l) q (in_here g l))) (λ q. inr (in_there (p c) g l q)) m.0,
      ⊎_elim inl (λ q. inr (in_there (f c) g l q)) m.1,
    )

-- below n, f' is f but at u, where it is v
abbrev pub Upd : ℕ → (ℕ → ℕ) → (ℕ → ℕ) → ℕ → ℕ → Type 0
Upd n f f' u v = (f' u ≡ v) × ((x : ℕ) → x < n → (x ≡ u → ⊥) → f' x ≡ f x)

-- taking c out
pub take_out : (n : ℕ) (p f p' f' : ℕ → ℕ) (a : ℕ) (l : List ℕ) (e c : ℕ) → Links p f a l e → Once l → member a l ≡ false → member e l ≡ false → In c l
    → a < n → e < n → ((x : ℕ) → In x l → x < n)
    → Upd n f f' (p c) (f c) → Upd n p p' (f c) (p c) → Links p' f' a (without c l) e
take_out n p f p' f' a [] e c h o za ze k la le lo uf up = clash k refl
take_out n p f p' f' a (g ∷ l) e c h o za ze k la le lo uf up =
    by (eqb g c)
    (λ q. rw q (subst (λ (t : List ℕ). Links p' f' a t e) (sym (without-out c l (out_of c l (λ m. clash (subst (λ (t : ℕ). In t l) (sym (eqb-true g c q)) m) o.0)))) (first (sym (eqb-true g c q)))))
    (λ q. rw q (other q, other-back q, take_out n p f p' f' g l e c h.2 o.1 o.0 (out_of e l (λ m. clash (in_there e g l m) ze)) (rest q) (lo g (in_here g l)) le (λ x m. lo x (in_there x g l m)) uf up))
  where
    rest : eqb g c ≡ false → In c l
    rest q = ⊎_elim (λ t. absurd (eqb-false g c q (sym t))) (λ t. t) (in_cons c g l k)

    join : (f (p c) ≡ c) × (p (f c) ≡ c)
    join = between p f a (g ∷ l) e c h k

    other : eqb g c ≡ false → f' a ≡ g
    other q = uf.1 a la (λ t. eqb-false g c q (sym h.0 ∙ ap f t ∙ join.0)) ∙ h.0

    other-back : eqb g c ≡ false → p' g ≡ a
    other-back q = up.1 g (lo g (in_here g l)) (λ t. clash (subst (λ (y : ℕ). In y (g ∷ l)) (sym join.1 ∙ ap p (sym t) ∙ h.1) k) za) ∙ h.1

    below : (x : ℕ) → (x ≡ e) ⊎ In x l → x < n
    below x (inl m) = subst (λ (t : ℕ). t < n) (sym m) le
    below x (inr m) = lo x (in_there x g l m)

    first : c ≡ g → Links p' f' a l e
    first t =
        rehead p f p' f' g a l e h.2 o.1 (out_of e l (λ m. clash (in_there e g l m) ze))
        (subst (λ (y : ℕ). f' y ≡ f g) (ap p t ∙ h.1) (uf.0 ∙ ap f t))
        (subst (λ (y : ℕ). p' y ≡ a) (ap f t) (up.0 ∙ ap p t ∙ h.1))
        (λ x m. uf.1 x (lo x (in_there x g l m)) (λ y. clash (in_there a g l (subst (λ (z : ℕ). In z l) (y ∙ ap p t ∙ h.1) m)) za))
        (λ x m y. up.1 x (below x m) (λ z. y (z ∙ ap f t)))

-- putting c in, first
pub put_in : (p f p' f' : ℕ → ℕ) (a : ℕ) (l : List ℕ) (e c : ℕ) → Links p f a l e → Once l → member a l ≡ false → member e l ≡ false → member c l ≡ false → (c ≡ e → ⊥)
    → f' a ≡ c → f' c ≡ f a → p' c ≡ a → p' (f a) ≡ c
    → ((x : ℕ) → In x l → f' x ≡ f x) → ((x : ℕ) → (x ≡ e) ⊎ In x l → (x ≡ f a → ⊥) → p' x ≡ p x) → Links p' f' a (c ∷ l) e
put_in p f p' f' a l e c h o za ze zc ce fa fc pc pf hf hp = (fa, pc, rehead p f p' f' a c l e h o ze fc pf hf hp)
