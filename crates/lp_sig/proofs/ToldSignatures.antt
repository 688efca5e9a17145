-- What the sight of a signature tells, from those of its kinds, abbreviations and constants.
use Rattle.std.proofs.Common.{◌≡◌, ℕ, List, [], ◌∷◌, ◌++◌, map, get_or, Some, refl, sym, ap, subst, ◌∙◌, arith, append_assoc, append-nil}
use Rattle.std.specs.Prelude.{All}
use Rattle.std.proofs.lemmas.List.Elements.{All-pop}
use Rattle.lp_term.specs.Nodes.{Nodes, Extends, type_tree}
use Rattle.lp_term.specs.declared.node.TypeId.{TypeId}
use Rattle.lp_sig.specs.AsWritten.{HasWholeBodies}
use Rattle.lp_sig.specs.Modules.{of_each, said_of, constants_of, kind_said, abbreviation_said}
use Rattle.lp_sig.specs.Named.{NamedTy, named_in, kind_name, kind_names, IsOrdered}
use Rattle.lp_sig.specs.Rows.{Row}
use Rattle.lp_sig.specs.Said.{Said, names_in}
use Rattle.lp_sig.specs.GoingTogether.{named_constant, types_of, said_with, bodies_with, types_with, KindsGo, AreOfTexts, other_abbreviation, other_constant, other_kind, other_type, many_kinds, many_constants}
use Rattle.lp_sig.specs.inner.Telling.{first_sight, KindsTell, AbbreviationsTell, ConstantsTell, SightTells, EachKind, FitsHere, IsTypeHere, AreTypesHere, AreBodiesHere, AreTypedHere, CanSeeAll, CanSeeBodies}
use Rattle.lp_sig.specs.Worded.{HasWords}
use Rattle.lp_sig.specs.declared.bodies.Body.{Body}
use Rattle.lp_sig.specs.declared.constants.Constants.{Constants}
use Rattle.lp_sig.specs.declared.entries.ConstantEntry.{ConstantEntry}
use Rattle.lp_sig.specs.declared.see.Sight.{Sight}
use Rattle.lp_sig.specs.declared.see.Sight.TheVariants.{Alike, Otherwise, TooMany}
use Rattle.lp_sig.specs.declared.signature.Signature.{Signature}
use Rattle.lp_sig.proofs.ToldBodies.{bodies_in_bank, bodies_of_kinds}
use Rattle.lp_sig.proofs.TypesHere.{type_later, types_later, whole_each, kinds_fit}

-- one more signature
pub each_more : {A : Type 0} (f : Signature → List A) (before : List Signature) (u : Signature) → of_each f (before ++ u ∷ []) ≡ of_each f before ++ f u
each_more f [] u = append-nil (f u)
each_more f (x ∷ xs) u = ap (λ l. f x ++ l) (each_more f xs u) ∙ sym (append_assoc (f x) (of_each f xs) (f u))

pub each_names : (before : List Signature) → names_in (of_each types_of before) ≡ of_each constants_of before
each_names [] = refl
each_names (x ∷ xs) = append_names (types_of x) (of_each types_of xs) ∙ (λ i. mapped x.constants.items i ++ each_names xs i)
  where
    append_names : (xs ys : List (Row NamedTy)) → names_in (xs ++ ys) ≡ names_in xs ++ names_in ys
    append_names [] ys = refl
    append_names (x ∷ xs) ys = ap (λ l. x.0 ∷ l) (append_names xs ys)

    mapped : (es : List ConstantEntry) → names_in (map (named_constant x) es) ≡ map (λ e. e.name.items) es
    mapped [] = refl
    mapped (e ∷ es) = ap (λ l. e.name.items ∷ l) (mapped es)

-- the signatures before, and this one
module _ (before : List Signature) (u : Signature) (texts : AreOfTexts (before ++ u ∷ [])) where
  parted : (P : Signature → Type 0) → All P (before ++ u ∷ []) → All P before × P u
  parted P h = All-pop P (before ++ u ∷ []) before (Some u) refl h

  pub texts_before : AreOfTexts before
  texts_before = record { ordered = (parted IsOrdered texts.ordered).0; whole = (parted HasWholeBodies texts.whole).0 }

  pub text_ordered : IsOrdered u
  text_ordered = (parted IsOrdered texts.ordered).1

  pub text_whole : HasWholeBodies u
  text_whole = (parted HasWholeBodies texts.whole).1

-- the kinds of a signature that go have numbers, and so have those of its types
module _ (w : List (Row Said)) (u : Signature) (go : KindsGo w u.kinds.items) where
  pub constants_fit : IsOrdered u → All (λ e. EachKind (FitsHere w) (named_in u e.scheme)) u.constants.items
  constants_fit o i d l = whole_each (kind_name (kind_names u)) (FitsHere w) (λ k name e. kinds_fit w u.kinds.items k name go e) (type_tree u.bank (get_or u.constants.items i d).scheme.0) (o.whole i d l)

  pub bodies_fit : HasWholeBodies u → All (λ e. EachKind (FitsHere w) (named_in u e.body)) u.abbreviations.items
  bodies_fit h i d l = whole_each (kind_name (kind_names u)) (FitsHere w) (λ k name e. kinds_fit w u.kinds.items k name go e) (type_tree u.bank (get_or u.abbreviations.items i d).body.0) (h i d l)

-- all of it
module _ (before : List Signature) (u : Signature) (kinds : Sight) (told : KindsTell (said_with before u) u.kinds.items kinds) where
  pub signature_told : (abbreviations constants : Sight) →
      (kinds ≡ Alike → AreOfTexts (before ++ u ∷ []) → AbbreviationsTell (said_with before u) (bodies_with before u) u u.abbreviations.items abbreviations) →
      (kinds ≡ Alike → AreOfTexts (before ++ u ∷ []) → ConstantsTell (of_each constants_of before) (types_with before u) u u.constants.items constants) →
      (first all : Sight) → first ≡ first_sight kinds abbreviations → all ≡ first_sight first constants → SightTells before u all
  signature_told abbreviations constants of_abbreviations of_constants first all is_first is_all =
      subst (SightTells before u) (sym (is_all ∙ ap (λ s. first_sight s constants) is_first)) (by kinds told abbreviations constants of_abbreviations of_constants)
    where
      by : (k : Sight) → KindsTell (said_with before u) u.kinds.items k → (a c : Sight) →
          (k ≡ Alike → AreOfTexts (before ++ u ∷ []) → AbbreviationsTell (said_with before u) (bodies_with before u) u u.abbreviations.items a) →
          (k ≡ Alike → AreOfTexts (before ++ u ∷ []) → ConstantsTell (of_each constants_of before) (types_with before u) u u.constants.items c) →
          SightTells before u (first_sight (first_sight k a) c)
      by Alike go Alike Alike f g = record { kinds = go; abbreviations = f refl; constants = g refl }
      by Alike go Alike Otherwise f g = other_type go (λ texts. other_constant (f refl texts) (g refl texts))
      by Alike go Alike TooMany f g = many_constants go (λ texts. record { abbreviations = f refl texts; constants = g refl texts })
      by Alike go Otherwise c f g = other_type go (λ texts. other_abbreviation (f refl texts))
      by Alike go TooMany c f g = many_constants go (λ texts. absurd ((f refl texts).wrong))
      by Otherwise wrong a c f g = other_kind wrong
      by TooMany wrong a c f g = many_kinds wrong

-- what is known where its abbreviations and its constants are seen
module _ (u : Signature) (old here : Nodes) (said : List (Row Said)) (rows : List (Row NamedTy)) (made : List TypeId) (x : Extends old here) (types : AreTypesHere u.bank here (kind_names u) (said ++ map kind_said u.kinds.items) made) where
  pub can_see_bodies : (bodies : List Body) → AreBodiesHere old bodies said rows → HasWholeBodies u → CanSeeBodies here bodies u (said ++ map kind_said u.kinds.items) rows made u.abbreviations.items
  can_see_bodies bodies g whole = record { given = bodies_of_kinds here bodies said rows u.kinds.items (bodies_in_bank old here bodies said rows x g); here = types; whole = whole }

  pub can_see_constants : (c : Constants) (words : List (List ℕ)) → words ≡ names_in rows → HasWords c words → AreTypedHere old c said rows → IsOrdered u → CanSeeAll here c u (said ++ said_of u) rows made u.constants.items
  can_see_constants c words same met typed o = record {
    met = subst (HasWords c) same met;
    typed = λ k has.
        let h = typed k has in
        let l = h.inside in
        let m = x.more_types in
        record {
          type = h.type;
          declared = h.declared;
          inside = omega (arith, l, m);
          name = h.name;
          first = h.first;
          is = type_later said (said_of u) (type_tree here h.type.scheme.0) h.name (subst (λ T. IsTypeHere said T h.name) (sym (x.same_types h.type.scheme.0 l)) h.is);
        };
    here = subst (λ s. AreTypesHere u.bank here (kind_names u) s made) (append_assoc said (map kind_said u.kinds.items) (map abbreviation_said u.abbreviations.items))
        (types_later (said ++ map kind_said u.kinds.items) (map abbreviation_said u.abbreviations.items) u.bank here (kind_names u) made types);
    whole = o.whole;
  }
