-- The typings of a text are those of the text with its names looked up.
use Rattle.std.proofs.Common.{◌≡◌, ℕ, List, [], ◌∷◌, map, length, refl, sym, ap, subst, ◌∙◌, Option, Some, None}
use Rattle.lp_base.specs.declared.place.Spot.{Spot}
use Rattle.lp_calculus.specs.Types.{Ty, var, instance}
use Rattle.lp_calculus.specs.Typing.{o_type}
use Rattle.lp_type_laws.proofs.Types.{instance-var}
use Rattle.lp_term.specs.Nodes.{Nodes, type_tree}
use Rattle.lp_term.specs.declared.node.TypeId.{TypeId}
use Rattle.lp_syntax.specs.declared.text.RawTerm.{RawTerm}
use Rattle.lp_sig.specs.declared.signature.Signature.{Signature}
use Rattle.lp_infer.specs.Typing.{Raw, put_given, put_raw, Elaborates, Typing, IsTyping, IsPrincipal, HasNoTyping, put_typing}
use Rattle.lp_infer.specs.Texts.{Reads, IsTextTyping, IsPrincipalTyping, HasNoTextTyping}
use Rattle.lp_infer.specs.Postfix.{opens, postfix, mark, given_type}
use Rattle.lp_infer.specs.Visits.{noted_types, marks, IsLookedUp}
use Rattle.lp_infer.specs.declared.lookup.Step.{Step}
use Rattle.lp_infer.specs.declared.lookup.Step.TheVariants as step
use Rattle.lp_infer.specs.declared.lookup.Lookup.{Lookup}
use Rattle.lp_infer.proofs.Principal.{typing_same}
use Rattle.lp_infer.proofs.Marked.{put_mark, postfix_put, postfix_once}
use Rattle.lp_infer.proofs.LookedUp.{numbered, numbered_agrees, notes_of, notes_agree}

given_put : (b : Nodes) (ρ : ℕ → Ty) (given : Option TypeId) → put_given ρ (given_type (noted_types b var) given) ≡ given_type (noted_types b ρ) given
given_put b ρ None = refl
given_put b ρ (Some id) = ap (λ T. Some (instance ρ T)) (instance-var (type_tree b id.0))

mark_put : (sig : Signature) (text : List ℕ) (count : ℕ) (b : Nodes) (ρ : ℕ → Ty) (s : Step) → put_mark ρ (mark text sig.bank count (noted_types b var) s) ≡ mark text sig.bank count (noted_types b ρ) s
mark_put sig text count b ρ (step.Bound i) = refl
mark_put sig text count b ρ (step.Variable d i) = refl
mark_put sig text count b ρ (step.Standard i) = refl
mark_put sig text count b ρ (step.Declared i v id) = refl
mark_put sig text count b ρ (step.Integer z) = refl
mark_put sig text count b ρ (step.Text s) = refl
mark_put sig text count b ρ (step.Open given) = ap opens (given_put b ρ given)
mark_put sig text count b ρ step.Close = refl
mark_put sig text count b ρ step.Apply = refl

marks_put : (sig : Signature) (text : List ℕ) (count : ℕ) (b : Nodes) (ρ : ℕ → Ty) (ss : List Step) →
    map (put_mark ρ) (map (mark text sig.bank count (noted_types b var)) ss) ≡ map (mark text sig.bank count (noted_types b ρ)) ss
marks_put sig text count b ρ [] = refl
marks_put sig text count b ρ (s ∷ ss) = let e = mark_put sig text count b ρ s in let f = marks_put sig text count b ρ ss in cc

module _ (sig : Signature) (text : List ℕ) (raw : RawTerm) (l : Lookup) (R : Raw) where
  places : List Spot
  places = l.variables.places.items

  -- under types for the type variables the text is the one that has the list
  is_put : (ρ : ℕ → Ty) (S : Raw) → postfix R ≡ marks sig text (length l.variables.places.items) var l → postfix S ≡ marks sig text (length l.variables.places.items) ρ l → S ≡ put_raw ρ R
  is_put ρ S e f =
      postfix_once S (put_raw ρ R) (f ∙ sym (marks_put sig text (length l.variables.places.items) l.types ρ l.steps.items) ∙ ap (map (put_mark ρ)) (sym e) ∙ sym (postfix_put ρ R))

  pub to_text : IsLookedUp sig text raw.nodes.items raw.root l → postfix R ≡ marks sig text (length l.variables.places.items) var l → (T : Typing) → IsTyping R (length l.variables.places.items) T → IsTextTyping sig text raw l.variables.places.items T
  to_text L e T I =
      let ρ = I.notes in
      let κ = notes_of text l.notes.places.items ρ in
      let r = L.reads κ ρ (length l.variables.places.items) (notes_agree text l.notes.places.items ρ) in
      record {
        notes = κ;
        looked_up = put_raw ρ R;
        reads = subst (λ S. Reads sig text raw.nodes.items κ (length l.variables.places.items) [] [] raw.root S l.variables.places.items) (is_put ρ r.0 e r.2) r.1;
        many = I.many;
        elaborates = I.elaborates;
      }

  -- another typing has the same variables, and is one of the text that was read
  pub record OfText (others : List Spot) (U : Typing) : Type 0 where
    pub places : others ≡ l.variables.places.items
    pub typing : IsTyping R (length l.variables.places.items) U

  pub from_text : IsLookedUp sig text raw.nodes.items raw.root l → postfix R ≡ marks sig text (length l.variables.places.items) var l → (others : List Spot) (U : Typing) → IsTextTyping sig text raw others U → OfText others U
  from_text L e others U I =
      let κ = I.notes in
      let ρ = numbered text l.notes.places.items κ in
      let A = numbered_agrees text l.notes.places.items κ in
      let o = L.only κ ρ (length others) A I.looked_up others I.reads in
      let f : postfix I.looked_up ≡ marks sig text (length l.variables.places.items) ρ l = o.1 ∙ ap (λ ps. marks sig text (length ps) ρ l) o.0 in
      record {
        places = o.0;
        typing = record { many = I.many ∙ ap length o.0; notes = ρ; elaborates = subst (λ S. Elaborates U.free S U.formula o_type) (is_put ρ I.looked_up e f) I.elaborates };
      }

  pub principal_text : IsLookedUp sig text raw.nodes.items raw.root l → postfix R ≡ marks sig text (length l.variables.places.items) var l → (T : Typing) → IsPrincipal R (length l.variables.places.items) T → IsPrincipalTyping sig text raw l.variables.places.items T
  principal_text L e T P = record {
    typing = to_text L e T P.typing;
    first = λ others U I.
        let O = from_text L e others U I in
        let F = P.first U O.typing in
        (O.places, (F.0, typing_same (put_typing F.0 T) U F.1 F.2));
  }

  pub no_text : IsLookedUp sig text raw.nodes.items raw.root l → postfix R ≡ marks sig text (length l.variables.places.items) var l → HasNoTyping R (length l.variables.places.items) → HasNoTextTyping sig text raw
  no_text L e none others U I = none U (from_text L e others U I).typing
