-- Each kind in the body of an abbreviation that a module sees is one that it sees.
use Rattle.std.proofs.Common.{◌≡◌, ℕ, List, [], ◌∷◌, ◌++◌, get_or, Bool, true, false, Some, sym, ap, subst, ◌∙◌, cond, append-nil}
use Rattle.std.specs.Prelude.{All}
use Rattle.std.specs.Str.{bytes_eq}
use Rattle.std.proofs.lemmas.List.Elements.{All-head, All-tail, All-append, All-map, All-nil}
use Rattle.std.proofs.lemmas.Option.{same_Some}
use Rattle.lp_calculus.specs.Types.{Ty}
use Rattle.lp_syntax.specs.declared.text.Declaration.{Declaration}
use Rattle.lp_syntax.specs.declared.text.Sentence.{Sentence}
use Rattle.lp_sig.specs.Abbreviations.{one_text}
use Rattle.lp_sig.specs.AsWritten.{AreReady, DeclaresAsWritten, HasWholeBodies, as_trees, bodies_of, named_body}
use Rattle.lp_sig.specs.Modules.{HasSeen, declarations, of_each, said_in_module}
use Rattle.lp_sig.specs.Named.{IsWhole, NamedTy, kind_name, kind_names, named}
use Rattle.lp_sig.specs.Rows.{Row, found}
use Rattle.lp_sig.specs.Said.{Said, declared_names, kinds_among}
use Rattle.lp_sig.specs.Sighted.{said_kinds}
use Rattle.lp_sig.specs.Types.{Definition, IsBodyOf, as_tree, definitions_in, given_body, written_body}
use Rattle.lp_sig.specs.declared.signature.Signature.{Signature}
use Rattle.lp_sig.proofs.Agreeing.{texts_have_no_tree}
use Rattle.lp_sig.proofs.OrderedSignatures.{AreTreesKnown, KindsKnown, kind_names_are, type_known, whole_known}
use Rattle.lp_term.specs.Nodes.{type_tree}

-- bodies that signatures give
found_whole : (rows : List (Row NamedTy)) → All (λ r. IsWhole r.1) rows → (name : List ℕ) (t : NamedTy) → found name rows ≡ Some t → IsWhole t
found_whole [] all name t e = absurd (cc)
found_whole (r ∷ rs) all name t e = by (λ f. found_whole rs (All-tail (λ r. IsWhole r.1) r rs all) name t f) (bytes_eq name r.0) e
  where
    by : (found name rs ≡ Some t → IsWhole t) → (b : Bool) → cond b (Some r.1) (found name rs) ≡ Some t → IsWhole t
    by later true f = subst IsWhole (same_Some r.1 t f) (All-head (λ r. IsWhole r.1) r rs all)
    by later false f = later f

of_one : (s : Signature) → HasWholeBodies s → All (λ r. IsWhole r.1) (bodies_of s)
of_one s h = All-map (λ r. IsWhole r.1) (named_body s) s.abbreviations.items h

of_all : (used : List Signature) → All HasWholeBodies used → All (λ r. IsWhole r.1) (of_each bodies_of used)
of_all [] h = All-nil (λ r. IsWhole r.1)
of_all (u ∷ us) h = All-append (λ r. IsWhole r.1) (bodies_of u) (of_each bodies_of us) (of_one u (All-head HasWholeBodies u us h)) (of_all us (All-tail HasWholeBodies u us h))

-- a body that is known as a tree is one of these
found_tree : (text : List ℕ) (ds : List Declaration) (given : List (Row Ty)) (name : List ℕ) (t : Ty) → found name (as_trees given ++ definitions_in text ds) ≡ Some (as_tree t) → found name given ≡ Some t
found_tree text ds [] name t e = absurd (texts_have_no_tree (one_text text ds) name t (ap (found name) (append-nil (definitions_in text ds)) ∙ e))
found_tree text ds (r ∷ rs) name t e = by (λ f. found_tree text ds rs name t f) (bytes_eq name r.0) e
  where
    by : (found name (as_trees rs ++ definitions_in text ds) ≡ Some (as_tree t) → found name rs ≡ Some t) → (b : Bool) →
        cond b (Some (as_tree r.1)) (found name (as_trees rs ++ definitions_in text ds)) ≡ Some (as_tree t) → cond b (Some r.1) (found name rs) ≡ Some t
    by later true f = let g : r.1 ≡ t = cc in ap (λ t. Some t) g
    by later false f = later f

module _ (own : Signature) (used : List Signature) (text : List ℕ) (lines : List Sentence) (s : Signature) (ready : AreReady own used text lines) (seen : HasSeen own used text lines s) (d : DeclaresAsWritten own used text lines s) where
  abbrev said : List (Row Said)
  said = said_in_module own used text lines

  abbrev defs : List (Row Definition)
  defs = as_trees d.given ++ definitions_in text (declarations lines)

  kinds_are : kind_names s ≡ said_kinds said
  kinds_are = kind_names_are 8 s.kinds.items (kinds_among (declared_names said)) seen.kinds

  trees_known : AreTreesKnown said defs
  trees_known name t f =
      let b = d.are.bodies name t (found_tree text (declarations lines) d.given name t f) in
      let all = All-append (λ r. IsWhole r.1) (bodies_of own) (of_each bodies_of used) (of_one own ready.whole) (of_all used ready.used_whole) in
      whole_known (kind_name (said_kinds said)) t
      (subst (λ ns. IsWhole (named (kind_name ns) t)) kinds_are (found_whole (bodies_of own ++ of_each bodies_of used) all name (named (kind_name (kind_names s)) t) b))

  body_known : (name : List ℕ) (x : Definition) (t : Ty) → found name defs ≡ Some x → IsBodyOf said defs x t → KindsKnown (kind_name (said_kinds said)) t
  body_known name x t f (written_body at ps ty e apart is) = type_known said defs trees_known is
  body_known name x t f (given_body u e g) = subst (KindsKnown (kind_name (said_kinds said))) (sym g) (trees_known name u (f ∙ ap (λ d. Some d) e))

  pub bodies_known : All (λ e. KindsKnown (kind_name (kind_names s)) (type_tree s.bank e.body.0)) s.abbreviations.items
  bodies_known k e l =
      let x = get_or s.abbreviations.items k e in
      let body = (d.abbreviations k e l).body in
      subst (λ ns. KindsKnown (kind_name ns) (type_tree s.bank x.body.0)) (sym kinds_are) (body_known x.name.items body.definition (type_tree s.bank x.body.0) body.declared body.is)
