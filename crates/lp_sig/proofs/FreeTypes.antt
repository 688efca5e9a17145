-- The types that texts write hold no type parameter.
use Rattle.std.specs.Global.{Global}
use Rattle.std.proofs.Common.{◌≡◌, ℕ, zero, suc, List, [], ◌∷◌, map, Option, Some, String, Vec, sym, ap, subst, ◌∙◌}
use Rattle.std.specs.Prelude.{All}
use Rattle.std.proofs.lemmas.List.Elements.{All-nil, All-cons}
use Rattle.lp_base.specs.declared.place.Spot.{Spot}
use Rattle.lp_calculus.specs.Types.{Ty, Tys, var, param, con, arrow, no_types, types, tys, instance, instances}
use Rattle.lp_syntax.specs.declared.text.RawTypeNode.{RawTypeNode}
use Rattle.lp_syntax.specs.declared.text.SignatureText.{SignatureText}
use Rattle.lp_standard.specs.declared.fixity.Fixity.{Fixity}
use Rattle.lp_term.specs.Nodes.{type_tree}
use Rattle.lp_sig.specs.Abbreviations.{nothing_seen, one_text}
use Rattle.lp_sig.specs.Constants.{AreInStep, IsConstant, Written, declared_constants}
use Rattle.lp_sig.specs.Named.{HasFreeTypes, HasNoParam, HaveNoParams}
use Rattle.lp_sig.specs.Refusals.{IsAccepted, seen_in}
use Rattle.lp_sig.specs.Refusals.{constants_of as constants_of_steps}
use Rattle.lp_sig.specs.Rows.{Row, found, kind_row}
use Rattle.lp_sig.specs.Said.{Said, of_steps}
use Rattle.lp_sig.specs.Schemes.{first_variables, numbered_type, place}
use Rattle.lp_sig.specs.Types.{AreTypesOf, Definition, IsBodyOf, IsTypeOf, a_variable, abbreviation_on, an_arrow, as_tree, given_body, given_for, kind_on, no_more, one_more, written_body}
use Rattle.lp_sig.specs.declared.entries.ConstantEntry.{ConstantEntry}
use Rattle.lp_sig.specs.declared.signature.Signature.{Signature}
use Rattle.lp_sig.proofs.Agreeing.{texts_have_no_tree}
use Rattle.lp_sig.proofs.OneSignature.{said_together}

module _ (θ : ℕ → Ty) (free : (x : ℕ) → HasNoParam (θ x)) where
  mutual
    instance_free : (T : Ty) → HasNoParam T → HasNoParam (instance θ T)
    instance_free (var x) h = free x
    instance_free (param k) h = absurd h
    instance_free (con c ts) h = instances_free ts h
    instance_free (arrow a b) (h, k) = (instance_free a h, instance_free b k)

    instances_free : (ts : Tys) → HaveNoParams ts → HaveNoParams (instances θ ts)
    instances_free no_types h = tt
    instances_free (types t ts) (h, hs) = (instance_free t h, instances_free ts hs)

given_free : (ts : List Ty) (n : ℕ) (d : Ty) → HaveNoParams (tys ts) → HasNoParam d → HasNoParam (given_for ts n d)
given_free [] n d h k = k
given_free (t ∷ ts) zero d (h, hs) k = h
given_free (t ∷ ts) (suc n) d (h, hs) k = given_free ts n d hs k

module _ (said : List (Row Said)) (defs : List (Row Definition)) (no_tree : (name : List ℕ) (t : Ty) → found name defs ≡ Some (as_tree t) → ⊥) where
  mutual
    type_free : {text : List ℕ} {ν : ℕ → Spot → Option ℕ} {nodes : List RawTypeNode} {i : ℕ} {t : Ty} → IsTypeOf said defs text ν nodes i t → HasNoParam t
    type_free (a_variable s args n at v is e) = subst HasNoParam (sym e) tt
    type_free (kind_on s args k ts at v means number parts e) = subst HasNoParam (sym e) (list_free parts)
    type_free (abbreviation_on s args d body ts at v means declared inner parts e) =
        let all = list_free parts in
        subst HasNoParam (sym e) (instance_free (λ n. given_for ts n (var n)) (λ n. given_free ts n (var n) all tt) body (body_free _ declared inner))
    type_free (an_arrow a b x y at left right e) = subst HasNoParam (sym e) (type_free left, type_free right)

    body_free : {d : Definition} {t : Ty} (name : List ℕ) → found name defs ≡ Some d → IsBodyOf said defs d t → HasNoParam t
    body_free name f (written_body text ps ty e apart is) = type_free is
    body_free name f (given_body u e g) = absurd (no_tree name u (f ∙ ap (λ d. Some d) e))

    list_free : {text : List ℕ} {ν : ℕ → Spot → Option ℕ} {nodes : List RawTypeNode} {places : List ℕ} {ts : List Ty} → AreTypesOf said defs text ν nodes places ts → HaveNoParams (tys ts)
    list_free (no_more e f) = subst (λ ts. HaveNoParams (tys ts)) (sym f) tt
    list_free (one_more i rest t us e f first later) = subst (λ ts. HaveNoParams (tys ts)) (sym f) (type_free first, list_free later)

numbered_free : (T : Ty) → HasNoParam T → HasNoParam (numbered_type T)
unfolding numbered_type
numbered_free T h = instance_free (λ x. var (place (first_variables T) x)) (λ x. tt) T h

module _ (s : Signature) (said : List (Row Said)) (defs : List (Row Definition)) (no_tree : (name : List ℕ) (t : Ty) → found name defs ≡ Some (as_tree t) → ⊥) where
  abbrev IsFree : ConstantEntry → Type 0
  IsFree e = HasNoParam (type_tree s.bank e.scheme.0)

  each_free : (n : ℕ) (rows : List (Row Written)) (es : List ConstantEntry) → AreInStep (IsConstant s.bank said defs) n rows es → All IsFree es
  each_free n [] [] h = All-nil IsFree
  each_free n [] (e ∷ es) h = absurd h
  each_free n (r ∷ rs) [] h = All-nil IsFree
  each_free n (r ∷ rs) (e ∷ es) (h, hs) =
      All-cons IsFree e es (subst HasNoParam (sym h.scheme.numbered) (numbered_free h.scheme.replaced (type_free said defs no_tree h.scheme.is))) (each_free (suc n) rs es hs)

pub types_free : (names : List (String Global)) (sources : List (Vec ℕ Global)) (texts : List SignatureText) (root : ℕ) (fixities : List (Row (Fixity × ℕ))) (s : Signature) →
    IsAccepted names sources texts root (map kind_row s.kinds.items) fixities s.bank s.abbreviations.items s.constants.items → HasFreeTypes s
types_free names sources texts root fixities s a =
    let z = seen_in names sources texts a.steps in
    let ts = of_steps one_text sources texts a.steps in
    each_free s z.said z.definitions (λ name t e. texts_have_no_tree ts name t (ap (found name) (sym (said_together nothing_seen ts).1) ∙ e)) 32
    (declared_constants (constants_of_steps names sources texts a.steps)) s.constants.items a.constants_are
