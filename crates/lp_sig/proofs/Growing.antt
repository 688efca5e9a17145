-- More sentences change no type: what a name means, its number and its definition stay.
use Rattle.std.proofs.Common.{◌≡◌, ℕ, suc, min, List, [], ◌∷◌, ◌++◌, Bool, true, false, Option, Some, None, refl, sym, ap, ◌∙◌, cond, append_assoc}
use Rattle.std.specs.Prelude.{if◌then◌else◌, option_map}
use Rattle.std.specs.Str.{bytes_eq}
use Rattle.lp_base.specs.declared.place.Spot.{Spot}
use Rattle.lp_calculus.specs.Types.{Ty}
use Rattle.lp_syntax.specs.declared.text.RawTypeNode.{RawTypeNode}
use Rattle.lp_sig.specs.Rows.{Row, found}
use Rattle.lp_sig.specs.Standard.{standard_kinds}
use Rattle.lp_sig.specs.Said.{Said, a_kind, an_abbreviation, is_among, names_in, firsts, declared_names, kinds_among, numbered}
use Rattle.lp_sig.specs.Words.{standard_said, meaning_of, number_said}
use Rattle.lp_sig.specs.Types.{one_or, kind_number_of, Definition, by_parameters, IsTypeOf, AreTypesOf, a_variable, kind_on, abbreviation_on, an_arrow, no_more, one_more, IsBodyOf, written_body, given_body, HasBody}

pub found_more : {A : Type 0} (name : List ℕ) (front back : List (Row A)) (a : A) → found name front ≡ Some a → found name (front ++ back) ≡ Some a
found_more name [] back a some = absurd (cc)
found_more {A} name (x ∷ xs) back a some = by (found_more name xs back a) (bytes_eq name x.0) some
  where
    by : (found name xs ≡ Some a → found name (xs ++ back) ≡ Some a) → (t : Bool) → cond t (Some x.1) (found name xs) ≡ Some a → cond t (Some x.1) (found name (xs ++ back)) ≡ Some a
    by h true e = e
    by h false e = h e

pub firsts_front : {A : Type 0} (known : List (List ℕ)) (xs ys : List (Row A)) → (rest : List (Row A)) × (firsts known (xs ++ ys) ≡ firsts known xs ++ rest)
firsts_front known [] ys = (firsts known ys, refl)
firsts_front {A} known (x ∷ xs) ys = by (is_among x.0 known) (firsts_front known xs ys) (firsts_front (x.0 ∷ known) xs ys)
  where
    by : (t : Bool) → (rest : List (Row A)) × (firsts known (xs ++ ys) ≡ firsts known xs ++ rest) → (rest : List (Row A)) × (firsts (x.0 ∷ known) (xs ++ ys) ≡ firsts (x.0 ∷ known) xs ++ rest) →
        (rest : List (Row A)) × ((if t then firsts known (xs ++ ys) else x ∷ firsts (x.0 ∷ known) (xs ++ ys)) ≡ (if t then firsts known xs else x ∷ firsts (x.0 ∷ known) xs) ++ rest)
    by true h k = h
    by false h k = (k.0, ap (λ l. x ∷ l) k.1)

pub kinds_append : (xs ys : List (Row Said)) → kinds_among (xs ++ ys) ≡ kinds_among xs ++ kinds_among ys
kinds_append [] ys = refl
kinds_append ((n, a_kind c) ∷ rs) ys = ap (λ l. (n, c) ∷ l) (kinds_append rs ys)
kinds_append ((n, an_abbreviation p) ∷ rs) ys = kinds_append rs ys

numbered_front : (n : ℕ) (xs ys : List (Row ℕ)) → (rest : List (Row (ℕ × ℕ))) × (numbered n (xs ++ ys) ≡ numbered n xs ++ rest)
numbered_front n [] ys = (numbered n ys, refl)
numbered_front n (x ∷ xs) ys = let h = numbered_front (suc n) xs ys in (h.0, ap (λ l. (x.0, (n, x.1)) ∷ l) h.1)

pub meaning_more : (said more : List (Row Said)) (name : List ℕ) (m : Said) → meaning_of name said ≡ Some m → meaning_of name (said ++ more) ≡ Some m
unfolding meaning_of
meaning_more said more name m e = ap (found name) (sym (append_assoc standard_said said more)) ∙ found_more name (standard_said ++ said) more m e

number_said_more : (said more : List (Row Said)) (name : List ℕ) (k : ℕ) → number_said name said ≡ Some k → number_said name (said ++ more) ≡ Some k
unfolding number_said
number_said_more said more name k e =
    let f = firsts_front (names_in standard_kinds) said more in
    let n = numbered_front 8 (kinds_among (declared_names said)) (kinds_among f.0) in
    ap (λ rows. option_map (λ r. r.0) (found name (numbered 8 rows))) (ap kinds_among f.1 ∙ kinds_append (declared_names said) f.0) ∙ ap (λ rows. option_map (λ r. r.0) (found name rows)) n.1 ∙
    by (found name (numbered 8 (kinds_among (declared_names said)))) n.0 refl e
  where
    by : (o : Option (ℕ × ℕ)) (rest : List (Row (ℕ × ℕ))) → found name (numbered 8 (kinds_among (declared_names said))) ≡ o → option_map (λ r. r.0) o
        ≡ Some k → option_map (λ r. r.0) (found name (numbered 8 (kinds_among (declared_names said)) ++ rest)) ≡ Some k
    by None rest p e = absurd (cc)
    by (Some r) rest p e = ap (option_map (λ r. r.0)) (found_more name (numbered 8 (kinds_among (declared_names said))) rest r p) ∙ e

pub kind_number_more : (said more : List (Row Said)) (name : List ℕ) (k : ℕ) → kind_number_of name said ≡ Some k → kind_number_of name (said ++ more) ≡ Some k
unfolding kind_number_of
kind_number_more said more name k e = by (option_map (λ r. r.0) (found name standard_kinds)) (number_said name said) refl e
  where
    by : (s o : Option ℕ) → number_said name said ≡ o → one_or s (option_map (λ n. min n 4294967295) o) ≡ Some k → one_or s
        (option_map (λ n. min n 4294967295) (number_said name (said ++ more))) ≡ Some k
    by (Some n) o p e = e
    by None None p e = absurd (cc)
    by None (Some n) p e = ap (option_map (λ n. min n 4294967295)) (number_said_more said more name n p) ∙ e

module _ (said more : List (Row Said)) (defs others : List (Row Definition)) where
  mutual
    pub type_stays : (text : List ℕ) (ν : ℕ → Spot → Option ℕ) (nodes : List RawTypeNode) (i : ℕ) (t : Ty) → IsTypeOf said defs text ν nodes i t →
        IsTypeOf (said ++ more) (defs ++ others) text ν nodes i t
    type_stays text ν nodes i t (a_variable s a n at v is e) = a_variable s a n at v is e
    type_stays text ν nodes i t (kind_on s a k ts at v means number parts e) =
        kind_on s a k ts at v (meaning_more said more _ _ means) (kind_number_more said more _ k number) (list_stays text ν nodes a.items ts parts) e
    type_stays text ν nodes i t (abbreviation_on s a d body ts at v means declared inner parts e) =
        abbreviation_on s a d body ts at v (meaning_more said more _ _ means) (found_more _ defs others d declared) (definition_stays d body inner)
        (list_stays text ν nodes a.items ts parts) e
    type_stays text ν nodes i t (an_arrow a b x y at left right e) = an_arrow a b x y at (type_stays text ν nodes a x left) (type_stays text ν nodes b y right) e

    list_stays : (text : List ℕ) (ν : ℕ → Spot → Option ℕ) (nodes : List RawTypeNode) (is : List ℕ) (ts : List Ty) → AreTypesOf said defs text ν nodes
        is ts → AreTypesOf (said ++ more) (defs ++ others) text ν nodes is ts
    list_stays text ν nodes is ts (no_more e f) = no_more e f
    list_stays text ν nodes is ts (one_more i rest t us e f first later) = one_more i rest t us e f (type_stays text ν nodes i t first) (list_stays text ν nodes rest us later)

    definition_stays : (d : Definition) (t : Ty) → IsBodyOf said defs d t → IsBodyOf (said ++ more) (defs ++ others) d t
    definition_stays d t (written_body text ps ty e apart is) = written_body text ps ty e apart (type_stays text (by_parameters text ps) ty.nodes.items ty.root t is)
    definition_stays d t (given_body u e f) = given_body u e f

  pub body_stays : (name : List ℕ) (t : Ty) → HasBody said defs name t → HasBody (said ++ more) (defs ++ others) name t
  body_stays name t h = record {
    definition = h.definition;
    declared = found_more name defs others h.definition h.declared;
    is = definition_stays h.definition t h.is;
  }
