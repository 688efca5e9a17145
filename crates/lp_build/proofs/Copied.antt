-- A copy of a signature is what the same text declares.
use Rattle.std.proofs.Common.{◌≡◌, ℕ, suc, ◌<◌, List, [], ◌∷◌, length, map, get_or, refl, sym, ap, subst, ◌∙◌, arith}
use Rattle.std.specs.Prelude.{All}
use Rattle.std.proofs.lemmas.List.Elements.{All-head, All-tail, All-cons}
use Rattle.lp_calculus.specs.Types.{var}
use Rattle.lp_syntax.specs.declared.text.SignatureText.{SignatureText}
use Rattle.lp_term.specs.Node.{type_top}
use Rattle.lp_term.specs.Nodes.{Nodes, type_tree, trees_after}
use Rattle.lp_sig.specs.Abbreviations.{Seen}
use Rattle.lp_sig.specs.Constants.{Written, IsConstant, IsSchemeOf, AreInStep}
use Rattle.lp_sig.specs.Entries.{IsBody, parameters_row}
use Rattle.lp_sig.specs.Rows.{Row, constant_row, abbreviation_row}
use Rattle.lp_sig.specs.Said.{Said}
use Rattle.lp_sig.specs.Types.{Definition, HasBody}
use Rattle.lp_sig.specs.declared.entries.AbbreviationEntry.{AbbreviationEntry}
use Rattle.lp_sig.specs.declared.entries.ConstantEntry.{ConstantEntry}
use Rattle.lp_sig.specs.declared.signature.Signature.{Signature}
use Rattle.lp_build.specs.Meant.{IsDeclaredAt, IsSignatureOf}
use Rattle.lp_build.specs.inner.Linked.{IsCopy}
use Rattle.lp_build.specs.declared.texts.Group.{Group}

parameters_same : (es fs : List AbbreviationEntry) → map abbreviation_row fs ≡ map abbreviation_row es → map parameters_row fs ≡ map parameters_row es
parameters_same [] [] e = refl
parameters_same [] (f ∷ fs) e = absurd (cc)
parameters_same (x ∷ es) [] e = absurd (cc)
parameters_same (x ∷ es) (f ∷ fs) e =
    let h : abbreviation_row f ≡ abbreviation_row x = cc in
    let t : map abbreviation_row fs ≡ map abbreviation_row es = cc in
    λ i. ((h i).0, (h i).1.0) ∷ parameters_same es fs t i

module _ (b d : Nodes) (types : d.types ≡ b.types) where
  pub tree_same : (i j : ℕ) → j ≡ i → type_tree d j ≡ type_tree b i
  unfolding type_tree
  tree_same i j e = ap (λ ts. get_or (trees_after type_top (var 0) [] ts) j (var 0)) types ∙ ap (λ k. get_or (trees_after type_top (var 0) [] b.types) k (var 0)) e

  below_same : (i j : ℕ) → j ≡ i → i < length b.types → j < length d.types
  below_same i j e h = let n = ap length types in omega (arith, e, n, h)

  constant_same : (said : List (Row Said)) (defs : List (Row Definition)) (n : ℕ) (row : Row Written) (x y : ConstantEntry) → constant_row y ≡
      constant_row x → IsConstant b said defs n row x → IsConstant d said defs n row y
  constant_same said defs n row x y e h = record {
    name = ap (λ r. r.0) e ∙ h.name;
    number = ap (λ r. r.1.0) e ∙ h.number;
    inside = below_same x.scheme.0 y.scheme.0 (ap (λ r. r.1.2) e) h.inside;
    scheme = subst (λ v. IsSchemeOf said defs row.1 v (type_tree d y.scheme.0)) (sym (ap (λ r. r.1.1) e))
        (subst (λ t. IsSchemeOf said defs row.1 x.type_vars t) (sym (tree_same x.scheme.0 y.scheme.0 (ap (λ r. r.1.2) e))) h.scheme);
  }

  constants_same : (said : List (Row Said)) (defs : List (Row Definition)) (n : ℕ) (rows : List (Row Written)) (xs ys : List ConstantEntry) → map
      constant_row ys ≡ map constant_row xs → AreInStep (IsConstant b said defs) n rows xs → AreInStep (IsConstant d said defs) n rows ys
  constants_same said defs n [] [] [] e h = h
  constants_same said defs n [] [] (y ∷ ys) e h = absurd (cc)
  constants_same said defs n [] (x ∷ xs) ys e h = absurd h
  constants_same said defs n (r ∷ rows) [] ys e h = absurd h
  constants_same said defs n (r ∷ rows) (x ∷ xs) [] e h = absurd (cc)
  constants_same said defs n (r ∷ rows) (x ∷ xs) (y ∷ ys) e h =
      let first : constant_row y ≡ constant_row x = cc in
      let rest : map constant_row ys ≡ map constant_row xs = cc in
      (constant_same said defs n r x y first h.0, constants_same said defs (suc n) rows xs ys rest h.1)

  body_same : (z : Seen) (x y : AbbreviationEntry) → abbreviation_row y ≡ abbreviation_row x → IsBody b z x → IsBody d z y
  body_same z x y e h = record {
    inside = below_same x.body.0 y.body.0 (ap (λ r. r.1.1) e) h.inside;
    tree = subst (λ n. HasBody z.said z.definitions n (type_tree d y.body.0)) (sym (ap (λ r. r.0) e))
        (subst (λ t. HasBody z.said z.definitions x.name.items t) (sym (tree_same x.body.0 y.body.0 (ap (λ r. r.1.1) e))) h.tree);
  }

  bodies_same : (z : Seen) (xs ys : List AbbreviationEntry) → map abbreviation_row ys ≡ map abbreviation_row xs → All (IsBody b z) xs → All (IsBody d z) ys
  bodies_same z xs [] e h = λ k w lt. absurd (omega (arith, lt))
  bodies_same z [] (y ∷ ys) e h = absurd (cc)
  bodies_same z (x ∷ xs) (y ∷ ys) e h =
      let first : abbreviation_row y ≡ abbreviation_row x = cc in
      let rest : map abbreviation_row ys ≡ map abbreviation_row xs = cc in
      All-cons (IsBody d z) y ys (body_same z x y first (All-head (IsBody b z) x xs h)) (bodies_same z xs ys rest (All-tail (IsBody b z) x xs h))

-- what a text declares is declared by a copy
pub copy_declared : (g : Group SignatureText) (place : ℕ) (s c : Signature) → IsCopy s c → IsDeclaredAt g place s → IsDeclaredAt g place c
copy_declared g place s c is h = record {
  steps = h.steps;
  loaded = h.loaded;
  taken = h.taken;
  kinds_are = is.kinds ∙ h.kinds_are;
  fixities_are = is.fixities ∙ h.fixities_are;
  abbreviations_are = record {
    rows = parameters_same s.abbreviations.items c.abbreviations.items is.abbreviations ∙ h.abbreviations_are.rows;
    bodies = bodies_same s.bank c.bank is.types _ s.abbreviations.items c.abbreviations.items is.abbreviations h.abbreviations_are.bodies;
  };
  alike = h.alike;
  constants_are = constants_same s.bank c.bank is.types _ _ 32 _ s.constants.items c.constants.items is.constants h.constants_are;
  numbers = h.numbers;
  typed = h.typed;
}

-- so is the signature of a file
pub copy_of_text : (g : Group SignatureText) (number : ℕ) (s c : Signature) → IsCopy s c → IsSignatureOf g number s → IsSignatureOf g number c
copy_of_text g number s c is h = record { place = h.place; there = h.there; declared = copy_declared g h.place s c is h.declared }
