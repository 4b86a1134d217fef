-- Changes that rest on a few bits are tried at every setting of these bits: where at each setting that passes the premises the bits
-- made anew are those of the next record, they are so in every record that passes. Assumes nothing.
use mathlib.Core.Path.{◌≡◌, sym, ap, ap₂, subst, ◌∙◌}
use mathlib.Core.Bool.{Bool, true, false, cond, ◌&&◌, ◌||◌, beq}
use mathlib.Core.List.{List, [], ◌∷◌, map}
use Prim.Native.Nat.{ℕ}
use lib.Dec.{T, eqb}
use borrow.Author.Tests.{eqb-true}
use Rattle.bits.specs.Bits.{Bits, bit, image, laid}
use Rattle.bits.specs.Places.{elem}
use Rattle.bits.proofs.Cases.{split, clash, and_l, and_r, under, T→true, true→T, beq→eq, off}
use Rattle.bits.proofs.Digits.{image_ext}
use Rattle.bits.proofs.Fills.{fill, all_fills, at_fill, fill_agree}
use Rattle.floor.specs.Tests.{Test, all_hold, Change, changed}
use Rattle.floor.proofs.Reading.{inside, inside_at, all_read_in, change_in, all_agree, changed_agree, changed_outside}

-- two records have the same bits at these places
abbrev pub alike : List ℕ → Bits → Bits → Bool
alike [] f g = true
alike (k ∷ ks) f g = beq (f k) (g k) && alike ks f g

alike_at : (ks : List ℕ) (f g : Bits) → T (alike ks f g) → (k : ℕ) → T (elem k ks) → f k ≡ g k
alike_at [] f g t k m = absurd m
alike_at (j ∷ js) f g t k m = split (eqb j k)
    (λ e. subst (λ (x : ℕ). f x ≡ g x) (eqb-true j k e) (beq→eq (f j) (g j) (and_l (beq (f j) (g j)) (alike js f g) t)))
    (λ e. alike_at js f g (and_r (beq (f j) (g j)) (alike js f g) t) k (subst (λ (b : Bool). T (b || elem k js)) e m))

-- a record with the bits at some places made anew: 1 at those of the second list
abbrev pub renewed : List ℕ → List ℕ → Bits → Bits
renewed touched new f k = cond (elem k touched) (elem k new) (f k)

-- the bits at ks, which the premises and the changes rest on; and, from these bits, the places touched and those that become 1
module _ (ks : List ℕ) (premises : List Test) (cs : List Change) (touched new : Bits → List ℕ) where
  -- at one record: nothing else is touched, and where the premises hold the bits are those of the next record
  abbrev right_at : Bits → Bool
  right_at f = inside ks (touched f) && cond (all_hold premises f) (alike ks (renewed (touched f) (new f) f) (changed cs f)) true

  -- at every setting; and nothing else is read or written
  abbrev pub right : Bool
  right = (all_read_in ks premises && change_in ks cs) && all_fills ks (λ bs. right_at (fill ks bs))

  module _ (same : (f g : Bits) → ((k : ℕ) → T (elem k ks) → f k ≡ g k) → (touched f ≡ touched g) × (new f ≡ new g)) (t : T right) (f : Bits) (h : all_hold premises f ≡ true) where
    -- the setting that f has
    g : Bits
    g = fill ks (map f ks)

    agree : (k : ℕ) → T (elem k ks) → g k ≡ f k
    unfolding g
    agree = fill_agree ks f

    framed : T (all_read_in ks premises && change_in ks cs)
    framed = and_l (all_read_in ks premises && change_in ks cs) (all_fills ks (λ bs. right_at (fill ks bs))) t

    tried : T (right_at g)
    unfolding g
    tried =
        at_fill ks (λ bs. right_at (fill ks bs))
        (and_r (all_read_in ks premises && change_in ks cs) (all_fills ks (λ bs. right_at (fill ks bs))) t) f

    held : all_hold premises g ≡ true
    held = all_agree ks g f agree premises (and_l (all_read_in ks premises) (change_in ks cs) framed) ∙ h

    at_ks : (k : ℕ) → T (elem k ks) → renewed (touched g) (new g) g k ≡ changed cs g k
    at_ks =
        alike_at ks (renewed (touched g) (new g) g) (changed cs g)
        (under (all_hold premises g) (alike ks (renewed (touched g) (new g) g) (changed cs g)) held
        (and_r (inside ks (touched g)) (cond (all_hold premises g) (alike ks (renewed (touched g) (new g) g) (changed cs g)) true) tried))

    inside_ks : T (inside ks (touched g))
    inside_ks = and_l (inside ks (touched g)) (cond (all_hold premises g) (alike ks (renewed (touched g) (new g) g) (changed cs g)) true) tried

    changes_in : T (change_in ks cs)
    changes_in = and_r (all_read_in ks premises) (change_in ks cs) framed

    -- then the record made anew is the next record
    pub renewed_right : (k : ℕ) → renewed (touched f) (new f) f k ≡ changed cs f k
    renewed_right k = split (elem k ks)
        (λ m.
        let e = true→T m in
        ap₂ (λ (a b : List ℕ). renewed a b f k) (sym (same g f agree).0) (sym (same g f agree).1)
        ∙ ap (cond (elem k (touched g)) (elem k (new g))) (sym (agree k e)) ∙ at_ks k e ∙ changed_agree ks g f agree cs changes_in k e)
        (λ m.
        let o : elem k (touched f) ≡ false =
        ap (λ (a : List ℕ). elem k a) (sym (same g f agree).0) ∙ off (elem k (touched g)) (λ y. clash (T→true (elem k ks) (inside_at ks (touched g) inside_ks k (true→T y))) m) in
        ap (λ (b : Bool). cond b (elem k (new f)) (f k)) o ∙ sym (changed_outside ks f cs changes_in k m))

-- ---- in code

-- two masks that name the places touched and those that become 1 make the next record
pub laid_right : (r touched new : ℕ) (js ks : List ℕ) (g : Bits) → ((k : ℕ) → bit touched k ≡ elem k js) → ((k : ℕ) → bit new k ≡ elem k ks)
    → ((k : ℕ) → renewed js ks (bit r) k ≡ g k) → image (laid r touched new) ≡ image g
laid_right r touched new js ks g p q e =
    image_ext (laid r touched new) g (λ k h. ap₂ (λ (a b : Bool). cond a b (bit r k)) (p k) (q k) ∙ e k)
