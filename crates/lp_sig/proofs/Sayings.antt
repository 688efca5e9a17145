-- What the sentences of a module say, and the signatures that it sees, one after the other.
use Rattle.lp_sig.specs.Holding.{KnowsBodies, line_of_module, declared_by_sentence}
use Rattle.lp_sig.specs.Types.{Definition, definitions_by, definitions_in}
use Rattle.lp_sig.specs.declared.bodies.Body.{Body}
use Rattle.lp_term.specs.Nodes.{Nodes}
use Rattle.std.proofs.Common.{◌≡◌, ℕ, ◌+◌, ◌<◌, List, [], ◌∷◌, ◌++◌, length, map, take, get_or, Option, Some, None, refl, sym, ap, subst, ◌∙◌, append_assoc, append-nil, zero, suc, arith}
use Rattle.std.proofs.lemmas.List.{take_more}
use Rattle.lp_base.specs.declared.place.Spot.{Spot}
use Rattle.lp_syntax.specs.declared.text.Declaration.{Declaration}
use Rattle.lp_syntax.specs.declared.text.RawTerm.{RawTerm}
use Rattle.lp_syntax.specs.declared.text.RawType.{RawType}
use Rattle.lp_syntax.specs.declared.text.Sentence.{Sentence}
use Rattle.lp_syntax.specs.declared.text.Sentence.TheVariants.{Declares, Says}
use Rattle.lp_sig.specs.Pieces.{spelled}
use Rattle.lp_sig.specs.Rows.{Row}
use Rattle.lp_sig.specs.Said.{Said, said_by, said_in}
use Rattle.lp_sig.specs.Knowing.{Knows}
use Rattle.lp_sig.specs.Modules.{declarations, of_each, local_names, constant_names_by, constant_names_in}
use Rattle.lp_sig.specs.Worded.{HasWords}
use Rattle.lp_sig.specs.declared.constants.Constants.{Constants}
use Rattle.lp_sig.specs.declared.names.Names.{Names}
use Rattle.lp_sig.specs.declared.signature.Signature.{Signature}

pub declared_append : (xs ys : List Sentence) → declarations (xs ++ ys) ≡ declarations xs ++ declarations ys
declared_append [] ys = refl
declared_append (Declares d ∷ xs) ys = ap (λ l. d ∷ l) (declared_append xs ys)
declared_append (Says raw ∷ xs) ys = declared_append xs ys

-- one more sentence
module _ {A : Type 0} (f : List Declaration → List A) (both : (xs ys : List Declaration) → f (xs ++ ys) ≡ f xs ++ f ys) where
  pub lines_more : (ls : List Sentence) (i : ℕ) (x : Sentence) (rows : List A) → i < length ls → x ≡ get_or ls i x →
      (rows ++ f (declarations (take i ls))) ++ f (declarations (x ∷ [])) ≡ rows ++ f (declarations (take (i + 1) ls))
  lines_more ls i x rows h is =
      append_assoc rows (f (declarations (take i ls))) (f (declarations (x ∷ []))) ∙
      ap (λ l. rows ++ l) (sym (both (declarations (take i ls)) (declarations (x ∷ []))) ∙ ap f
      (sym (declared_append (take i ls) (x ∷ [])) ∙ ap (λ y. declarations (take i ls ++ y ∷ [])) is ∙ ap declarations (sym (take_more ls i x h))))

pub lines_at : (ls : List Sentence) (i : ℕ) (x : Sentence) → i < length ls → x ≡ get_or ls i x → declarations (take i ls) ++ declarations (x ∷ []) ≡ declarations (take (i + 1) ls)
lines_at ls i x h is = sym (declared_append (take i ls) (x ∷ [])) ∙ ap (λ y. declarations (take i ls ++ y ∷ [])) is ∙ ap declarations (sym (take_more ls i x h))

pub constants_append : (text : List ℕ) (xs ys : List Declaration) → constant_names_in text (xs ++ ys) ≡ constant_names_in text xs ++ constant_names_in text ys
constants_append text [] ys = refl
constants_append text (x ∷ xs) ys = ap (λ z. constant_names_by text x ++ z) (constants_append text xs ys) ∙ sym
    (append_assoc (constant_names_by text x) (constant_names_in text xs) (constant_names_in text ys))

pub its_sentence : (names : Names) (text : List ℕ) (l : Sentence) (d : Declaration) → l ≡ Declares d → (said : List (Row Said)) → Knows names
    (said ++ said_by text d) → Knows names (said ++ said_in text (declarations (l ∷ [])))
its_sentence names text l d is said k = subst (λ l. Knows names (said ++ said_in text (declarations (l ∷ [])))) (sym is) (subst (λ r. Knows names (said ++ r)) (sym (append-nil (said_by text d))) k)

pub no_sentence : (names : Names) (text : List ℕ) (l : Sentence) (raw : RawTerm) → l ≡ Says raw → (said : List (Row Said)) → Knows names said → Knows
    names (said ++ said_in text (declarations (l ∷ [])))
no_sentence names text l raw is said k = subst (λ l. Knows names (said ++ said_in text (declarations (l ∷ [])))) (sym is) (subst (Knows names) (sym (append-nil said)) k)

-- the constants of a declaration and of a sentence
pub no_words : (c : Constants) (text : List ℕ) (l d : Declaration) → l ≡ d → constant_names_by text d ≡ [] → (words : List (List ℕ)) → HasWords c words → HasWords c (words ++ constant_names_by text l)
no_words c text l d is none words h = subst (HasWords c) (sym (append-nil words) ∙ ap (λ z. words ++ z) (sym none) ∙ ap (λ l. words ++ constant_names_by text l) (sym is)) h

pub its_words : (c : Constants) (text : List ℕ) (l d : Declaration) (rows : List (List ℕ)) → l ≡ d → rows ≡ constant_names_by text d →
    (words : List (List ℕ)) → HasWords c (words ++ rows) → HasWords c (words ++ constant_names_by text l)
its_words c text l d rows is same words h = subst (λ l. HasWords c (words ++ constant_names_by text l)) (sym is) (subst (λ r. HasWords c (words ++ r)) same h)

pub no_locals : (c : Constants) (text : List ℕ) (names : List Spot) (o : Option RawType) → o ≡ None → (words : List (List ℕ)) → HasWords c words → HasWords c (words ++ local_names text names o)
no_locals c text names o is words h = subst (λ o. HasWords c (words ++ local_names text names o)) (sym is) (subst (HasWords c) (sym (append-nil words)) h)

pub its_locals : (c : Constants) (text : List ℕ) (names : List Spot) (o : Option RawType) (ty : RawType) → o ≡ Some ty → (words : List (List ℕ)) →
    HasWords c (words ++ map (λ s. spelled text s) names) → HasWords c (words ++ local_names text names o)
its_locals c text names o ty is words h = subst (λ o. HasWords c (words ++ local_names text names o)) (sym is) h

pub its_line : (c : Constants) (text : List ℕ) (l : Sentence) (d : Declaration) → l ≡ Declares d → (words : List (List ℕ)) → HasWords c
    (words ++ constant_names_by text d) → HasWords c (words ++ constant_names_in text (declarations (l ∷ [])))
its_line c text l d is words h = subst (λ l. HasWords c (words ++ constant_names_in text (declarations (l ∷ [])))) (sym is)
    (subst (λ r. HasWords c (words ++ r)) (sym (append-nil (constant_names_by text d))) h)

pub no_line : (c : Constants) (text : List ℕ) (l : Sentence) (raw : RawTerm) → l ≡ Says raw → (words : List (List ℕ)) → HasWords c words → HasWords c
    (words ++ constant_names_in text (declarations (l ∷ [])))
no_line c text l raw is words h = subst (λ l. HasWords c (words ++ constant_names_in text (declarations (l ∷ [])))) (sym is) (subst (HasWords c) (sym (append-nil words)) h)

-- one more signature
pub each_append : {A : Type 0} (f : Signature → List A) (xs ys : List Signature) → of_each f (xs ++ ys) ≡ of_each f xs ++ of_each f ys
each_append f [] ys = refl
each_append f (x ∷ xs) ys = ap (λ z. f x ++ z) (each_append f xs ys) ∙ sym (append_assoc (f x) (of_each f xs) (of_each f ys))

pub signatures_more : {A : Type 0} (f : Signature → List A) (ss : List Signature) (i : ℕ) (s : Signature) (rows : List A) → i < length ss → s ≡ get_or
    ss i s → (rows ++ of_each f (take i ss)) ++ f s ≡ rows ++ of_each f (take (i + 1) ss)
signatures_more f ss i s rows h is =
    append_assoc rows (of_each f (take i ss)) (f s) ∙
    ap (λ l. rows ++ l) (ap (λ l. of_each f (take i ss) ++ l) (sym (append-nil (f s))) ∙ sym (each_append f (take i ss) (s ∷ [])) ∙ ap (of_each f)
    (ap (λ x. take i ss ++ x ∷ []) is ∙ sym (take_more ss i s h)))

-- the bodies that are announced by a sentence
pub its_bodies : (b : Nodes) (bodies : List Body) (text : List ℕ) (declared : ℕ → Option Declaration) (l : Sentence) (d : Declaration) → l ≡ Declares d → (said : List (Row Said)) (defs : List (Row Definition)) →
    KnowsBodies b bodies (said ++ said_by text d) (defs ++ definitions_by text d) text declared → KnowsBodies b bodies (said ++ said_in text (declarations (l ∷ []))) (defs ++ definitions_in text (declarations (l ∷ []))) text declared
its_bodies b bodies text declared l d is said defs k =
    subst (λ l. KnowsBodies b bodies (said ++ said_in text (declarations (l ∷ []))) (defs ++ definitions_in text (declarations (l ∷ []))) text declared) (sym is)
    (subst (λ r. KnowsBodies b bodies (said ++ r) (defs ++ (definitions_by text d ++ [])) text declared) (sym (append-nil (said_by text d)))
    (subst (λ r. KnowsBodies b bodies (said ++ said_by text d) (defs ++ r) text declared) (sym (append-nil (definitions_by text d))) k))

pub no_bodies : (b : Nodes) (bodies : List Body) (text : List ℕ) (declared : ℕ → Option Declaration) (l : Sentence) (raw : RawTerm) → l ≡ Says raw → (said : List (Row Said)) (defs : List (Row Definition)) →
    KnowsBodies b bodies said defs text declared → KnowsBodies b bodies (said ++ said_in text (declarations (l ∷ []))) (defs ++ definitions_in text (declarations (l ∷ []))) text declared
no_bodies b bodies text declared l raw is said defs k =
    subst (λ l. KnowsBodies b bodies (said ++ said_in text (declarations (l ∷ []))) (defs ++ definitions_in text (declarations (l ∷ []))) text declared) (sym is)
    (subst (λ r. KnowsBodies b bodies r (defs ++ []) text declared) (sym (append-nil said)) (subst (λ r. KnowsBodies b bodies said r text declared) (sym (append-nil defs)) k))

-- the line of a sentence
pub sentence_there : (lines : List Sentence) (i : ℕ) (l : Sentence) → i < length lines → l ≡ get_or lines i l → line_of_module lines i ≡ declared_by_sentence (Some l)
sentence_there [] i l h is = absurd (omega (arith, h))
sentence_there (x ∷ xs) zero l h is = ap (λ l. declared_by_sentence (Some l)) (sym is)
sentence_there (x ∷ xs) (suc i) l h is = sentence_there xs i l (omega (arith, h)) is
