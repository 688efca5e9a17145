-- Nothing but a fault leaves a body open: where its sentence stands and its uses have bodies, it has one.
use Rattle.std.specs.Global.{Global}
use Rattle.std.proofs.Common.{◌≡◌, ℕ, zero, suc, ◌<◌, List, [], ◌∷◌, length, map, take, get_or, Option, Some, None, sym, ap, subst, ◌∙◌, arith}
use Rattle.std.specs.Prelude.{Contains, Vec, slice_index_or}
use Rattle.std.proofs.lemmas.List.{get_or-map, length-map}
use Rattle.std.proofs.lemmas.Option.{same_Some}
use Rattle.lp_base.specs.declared.place.Spot.{Spot}
use Rattle.lp_syntax.specs.declared.text.Declaration.{Declaration}
use Rattle.lp_syntax.specs.declared.text.Declaration.TheVariants as declaration
use Rattle.lp_syntax.specs.declared.text.RawType.{RawType}
use Rattle.lp_syntax.specs.declared.text.RawTypeNode.{RawTypeNode}
use Rattle.lp_sig.specs.Pieces.{spelled}
use Rattle.lp_sig.specs.Rows.{Row}
use Rattle.lp_sig.specs.Said.{Said}
use Rattle.lp_sig.specs.Limits.{Apart, AreApart, IsRepeated}
use Rattle.lp_sig.specs.Words.{WordsStand, IsFirstFault, parameters_of}
use Rattle.lp_sig.specs.Loading.{Way, ways_out}
use Rattle.lp_sig.specs.Abbreviations.{abbreviation_names, uses_in}
use Rattle.lp_sig.specs.Holding.{line_at}
use Rattle.lp_sig.specs.Constants.{AreUsesSettled}
use Rattle.lp_sig.specs.Announced.{CanBeSettled}
use Rattle.lp_sig.specs.declared.bodies.Body.{Body}
use Rattle.lp_sig.specs.declared.fault.SigFault.{SigFault}

pub none_some : {A : Type 0} (o : Option A) (x : A) → o ≡ None → o ≡ Some x → ⊥
none_some o x e f = let g : None ≡ Some x = sym e ∙ f in absurd (cc)

pub same_line : (bodies : List Body) (place a b : ℕ) → line_at bodies place ≡ Some a → line_at bodies place ≡ Some b → a ≡ b
same_line bodies place a b e f = same_Some a b (sym e ∙ f)

-- words that stand have no first fault
pub no_fault : (text : List ℕ) (said : List (Row Said)) (vs : Option (List (List ℕ))) (nodes : List RawTypeNode) (e : SigFault) → WordsStand text said vs nodes → IsFirstFault text said vs nodes e → ⊥
no_fault text said vs nodes e w f = let g : None ≡ Some e = sym (w f.node f.among) ∙ f.is in absurd (cc)

-- parameters that are apart have none that stands a second time
again : (text : List ℕ) (words : List Spot) (k : ℕ) (s : Spot) → k < length words → get_or words k s ≡ s → Contains (map (λ w. spelled text w) (take k words)) (spelled text s) → Apart (map (λ w. spelled text w) words) → ⊥
again text [] k s l is c a = omega (arith, l)
again text (w ∷ ws) zero s l is c a = omega (arith, c.1)
again text (w ∷ ws) (suc k) s l is (zero, h, e) a =
    let n = length-map ws (λ w. spelled text w) in
    a.0 (k, omega (arith, l, n), get_or-map (λ w. spelled text w) ws k s (spelled text w) (omega (arith, l)) ∙ ap (λ v. spelled text v) is ∙ sym e)
again text (w ∷ ws) (suc k) s l is (suc j, h, e) a = again text ws k s (omega (arith, l)) is (j, omega (arith, h), e) a.1

pub not_repeated : (text : List ℕ) (words : List Spot) (s : Spot) → AreApart text words → IsRepeated text words s → ⊥
not_repeated text words s a r = again text words r.k s r.inside r.word r.again a

-- the sentence that is found at the line of a place
module _ (bodies : List Body) (said : List (Row Said)) (uses : List (List Way)) (text : List ℕ) (declared : ℕ → Option Declaration) (place line : ℕ) (s : Spot) (ps : Vec Spot Global) (ty : RawType) (can : CanBeSettled bodies said uses text declared place)
    (at : line_at bodies place ≡ Some line) (is : declared line ≡ Some (declaration.Abbreviation s ps ty)) where
  same : declaration.Abbreviation can.announced.name can.announced.parameters can.announced.body ≡ declaration.Abbreviation s ps ty
  same = same_Some (declaration.Abbreviation can.announced.name can.announced.parameters can.announced.body) (declaration.Abbreviation s ps ty)
      (sym can.announced.declares ∙ ap declared (same_Some can.announced.line line (sym can.announced.at_line ∙ at)) ∙ is)

  same_parameters : can.announced.parameters ≡ ps
  same_parameters = let e = same in cc

  same_body : can.announced.body ≡ ty
  same_body = let e = same in cc

  pub its_apart : AreApart text ps.items
  its_apart = subst (λ v. AreApart text v.items) same_parameters can.apart

  pub its_words : WordsStand text said (parameters_of text ps.items) ty.nodes.items
  its_words = subst (λ v. WordsStand text said (parameters_of text v.items) ty.nodes.items) same_parameters (subst (λ b. WordsStand text said (parameters_of text can.announced.parameters.items) b.nodes.items) same_body can.words)

  pub its_uses : AreUsesSettled bodies (ways_out uses place) → AreUsesSettled bodies (uses_in (abbreviation_names said) text ty.nodes.items)
  its_uses h = subst (AreUsesSettled bodies) (can.are ∙ ap (λ b. uses_in (abbreviation_names said) text b.nodes.items) same_body) h

-- the lines stay while bodies are put
pub can_stay : (old new : List Body) (said : List (Row Said)) (uses : List (List Way)) (text : List ℕ) (declared : ℕ → Option Declaration) (place : ℕ) → map (λ b. b.line) new ≡ map (λ b. b.line) old → CanBeSettled old said uses text declared place → CanBeSettled new said uses text declared place
can_stay old new said uses text declared place same h =
    let a = h.announced in
    record {
      announced = record { line = a.line; at_line = ap (λ l. slice_index_or l place None) same ∙ a.at_line; name = a.name; parameters = a.parameters; body = a.body; declares = a.declares; its_place = a.its_place };
      apart = h.apart;
      words = h.words;
      are = h.are;
    }
