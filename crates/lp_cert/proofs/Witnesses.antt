-- Values that may stand for the variables of a query, one after the other.
use Rattle.std.proofs.Common.{◌≡◌, ℕ, suc, ◌<◌, ◌≤◌, List, [], ◌∷◌, ◌++◌, length, map, take, refl, sym, ap, subst, ◌∙◌, get_or}
use Rattle.std.proofs.Math.Path.{transport}
use Rattle.std.proofs.lemmas.List.{get_or-map}
use Rattle.std.proofs.lemmas.Option.{slice_get_read}
use Rattle.lp_lemmas.proofs.Lists.{map_pushed, take_suc}
use Rattle.lp_calculus.specs.Types.{Ty, instance}
use Rattle.lp_calculus.specs.Term.{Term}
use Rattle.lp_calculus.specs.Typing.{type_at}
use Rattle.lp_term.specs.Nodes.{Nodes, Extends, tree, type_tree}
use Rattle.lp_term.specs.declared.node.TypeId.{TypeId}
use Rattle.lp_term.specs.declared.node.TermId.{TermId}
use Rattle.lp_term.proofs.Trees.{extends-trans}
use Rattle.lp_term.proofs.Knowing.{take_whole}
use Rattle.lp_model.specs.Proofs.{Declared, IsWitness}
use Rattle.lp_model.specs.Answers.{AreWitnesses}
use Rattle.lp_model.specs.Readings.{declared_by}
use Rattle.lp_model.specs.declared.program.Declared as code
use Rattle.lp_cert.specs.Same.{types_in, terms_in}
use Rattle.lp_cert.specs.inner.Named.{AreWitnessesIn}

witnesses_push : (d : Declared) (ts : List Term) (Ts : List Ty) (t : Term) (T : Ty) → AreWitnesses d ts Ts → IsWitness d [] t T → AreWitnesses d (ts ++ t ∷ []) (Ts ++ T ∷ [])
witnesses_push d [] [] t T a w = (w, tt)
witnesses_push d (s ∷ ts) (S ∷ Ts) t T a w = (a.0, witnesses_push d ts Ts t T a.1 w)
witnesses_push d [] (S ∷ Ts) t T a w = absurd a
witnesses_push d (s ∷ ts) [] t T a w = absurd a

pub taken_next : {A : Type 0} (xs : List A) (i n : ℕ) (x : A) → n ≡ suc i → i < length xs → x ≡ get_or xs i x → take n xs ≡ take i xs ++ x ∷ []
taken_next xs i n x m l e = ap (λ j. take j xs) m ∙ take_suc xs i x (slice_get_read xs (length xs) i x refl l e)

twice_mapped : (θ : ℕ → Ty) (d : Nodes) (os : List TypeId) → map (instance θ) (types_in d os) ≡ map (λ o. instance θ (type_tree d o.0)) os
twice_mapped θ d [] = refl
twice_mapped θ d (o ∷ os) = ap (λ l. instance θ (type_tree d o.0) ∷ l) (twice_mapped θ d os)

-- one more value; of is the type of its variable
pub witnesses_next : (b c : Nodes) (cs : List code.Declared) (types : List TypeId) (ts : List TermId) (ofs : List TypeId) (i n : ℕ) (t : TermId) (of : TypeId) → n ≡ suc i → Extends b c → i < length ts → i < length ofs → t ≡ get_or ts i t → of ≡ get_or ofs i of →
    AreWitnessesIn b cs types (take i ts) (take i ofs) → ((d : Nodes) → Extends c d → IsWitness (declared_by d cs) [] (tree d t.0) (instance (type_at (types_in d types)) (type_tree d of.0))) → AreWitnessesIn c cs types (take n ts) (take n ofs)
witnesses_next b c cs types ts ofs i n t of m g l k et eo a w = λ d h.
    let f : TypeId → Ty = λ o. instance (type_at (types_in d types)) (type_tree d o.0) in
    transport (λ j. AreWitnesses (declared_by d cs) (sym (map_pushed (λ x. tree d x.0) (take i ts) (take n ts) t (taken_next ts i n t m l et)) j)
    ((ap (λ Ts. Ts ++ f of ∷ []) (twice_mapped (type_at (types_in d types)) d (take i ofs)) ∙ sym
    (map_pushed f (take i ofs) (take n ofs) of (taken_next ofs i n of m k eo)) ∙ sym (twice_mapped (type_at (types_in d types)) d (take n ofs)))
    j))
    (witnesses_push (declared_by d cs) (terms_in d (take i ts)) (map (instance (type_at (types_in d types))) (types_in d (take i ofs))) (tree d t.0) (f of) (a d (extends-trans b c d g h)) (w d h))

pub witnesses_whole : (b : Nodes) (cs : List code.Declared) (types : List TypeId) (ts : List TermId) (ofs : List TypeId) (i : ℕ) → length ts ≤ i → length ofs ≤ i → AreWitnessesIn b cs types (take i ts) (take i ofs) → AreWitnessesIn b cs types ts ofs
witnesses_whole b cs types ts ofs i l k a = subst (λ us. AreWitnessesIn b cs types us ofs) (take_whole ts i l) (subst (AreWitnessesIn b cs types (take i ts)) (take_whole ofs i k) a)

pub witnesses_on : (b c : Nodes) (cs : List code.Declared) (types : List TypeId) (ts : List TermId) (ofs : List TypeId) → Extends b c → AreWitnessesIn b cs types ts ofs → AreWitnessesIn c cs types ts ofs
witnesses_on b c cs types ts ofs g a = λ d h. a d (extends-trans b c d g h)

-- the type of a variable
pub type_of_variable : {A : Type 0} (f : A → TypeId) (xs : List A) (i : ℕ) (x : A) → i < length xs → x ≡ get_or xs i x → f x ≡ get_or (map f xs) i (f x)
type_of_variable f xs i x l e = ap f e ∙ sym (get_or-map f xs i x (f x) l)
