-- What the texts say, sentence by sentence, text by text and step by step.
use Rattle.std.proofs.Common.{◌≡◌, ℕ, zero, suc, ◌+◌, ◌<◌, ◌≤◌, List, [], ◌∷◌, ◌++◌, length, take, take_all, get_or, refl, sym, ap, subst, ◌∙◌, arith, append_assoc, append-nil}
use Rattle.std.specs.Global.{Global}
use Rattle.std.specs.Prelude.{Vec}
use Rattle.std.proofs.lemmas.List.{take_more, map-append}
use Rattle.lp_base.specs.declared.place.Spot.{Spot}
use Rattle.lp_standard.specs.declared.fixity.Fixity.{Fixity}
use Rattle.lp_syntax.specs.declared.text.Declaration.{Declaration}
use Rattle.lp_syntax.specs.declared.text.SignatureText.{SignatureText}
use Rattle.lp_sig.specs.Pieces.{spelled}
use Rattle.lp_sig.specs.Rows.{Row}
use Rattle.lp_sig.specs.Said.{Said, each, said_by, said_in, fixities_by, fixities_in, of_text, of_step, of_steps}
use Rattle.lp_syntax.specs.declared.text.Declaration.TheVariants.{Fixities}
use Rattle.std.specs.Prelude.{if◌then◌else◌, nat_le}
use Rattle.lp_sig.specs.Knowing.{Knows, KnowsOperators}
use Rattle.lp_sig.specs.declared.names.Names.{Names}
use Rattle.lp_sig.specs.declared.operators.Operators.{Operators}
use Rattle.lp_sig.specs.declared.walk.Step.{Step}
use Rattle.lp_sig.specs.declared.walk.Step.TheVariants.{Enter, Declare}

-- one more name of a sentence
pub each_more : {A : Type 0} (text : List ℕ) (a : A) (names : List Spot) (i : ℕ) (d : Spot) (said : List (Row A)) → i < length names →
    (said ++ each text a (take i names)) ++ (spelled text (get_or names i d), a) ∷ [] ≡ said ++ each text a (take (i + 1) names)
each_more text a names i d said h =
    append_assoc said (each text a (take i names)) ((spelled text (get_or names i d), a) ∷ []) ∙
    ap (λ z. said ++ z) (sym (map-append (λ s. (spelled text s, a)) (take i names) (get_or names i d ∷ [])) ∙ ap (each text a) (sym (take_more names i d h)))

pub said_append : (text : List ℕ) (xs ys : List Declaration) → said_in text (xs ++ ys) ≡ said_in text xs ++ said_in text ys
said_append text [] ys = refl
said_append text (x ∷ xs) ys = ap (λ z. said_by text x ++ z) (said_append text xs ys) ∙ sym (append_assoc (said_by text x) (said_in text xs) (said_in text ys))

fixities_append : (text : List ℕ) (xs ys : List Declaration) → fixities_in text (xs ++ ys) ≡ fixities_in text xs ++ fixities_in text ys
fixities_append text [] ys = refl
fixities_append text (x ∷ xs) ys = ap (λ z. fixities_by text x ++ z) (fixities_append text xs ys) ∙ sym (append_assoc (fixities_by text x) (fixities_in text xs) (fixities_in text ys))

-- one more sentence
pub said_more : (text : List ℕ) (lines : List Declaration) (i : ℕ) (d : Declaration) (said : List (Row Said)) → i < length lines → d ≡ get_or lines i d →
    (said ++ said_in text (take i lines)) ++ said_by text d ≡ said ++ said_in text (take (i + 1) lines)
said_more text lines i d said h is =
    append_assoc said (said_in text (take i lines)) (said_by text d) ∙
    ap (λ z. said ++ z) (ap (λ e. said_in text (take i lines) ++ said_by text e) is ∙ ap (λ z. said_in text (take i lines) ++ z) (sym (append-nil (said_by text (get_or lines i d)))) ∙
    sym (said_append text (take i lines) (get_or lines i d ∷ [])) ∙ ap (said_in text) (sym (take_more lines i d h)))

pub fixities_more : (text : List ℕ) (lines : List Declaration) (i : ℕ) (d : Declaration) (said : List (Row (Fixity × ℕ))) → i < length lines → d ≡ get_or lines i d →
    (said ++ fixities_in text (take i lines)) ++ fixities_by text d ≡ said ++ fixities_in text (take (i + 1) lines)
fixities_more text lines i d said h is =
    append_assoc said (fixities_in text (take i lines)) (fixities_by text d) ∙
    ap (λ z. said ++ z) (ap (λ e. fixities_in text (take i lines) ++ fixities_by text e) is ∙ ap (λ z. fixities_in text (take i lines) ++ z) (sym (append-nil (fixities_by text (get_or lines i d)))) ∙
    sym (fixities_append text (take i lines) (get_or lines i d ∷ [])) ∙ ap (fixities_in text) (sym (take_more lines i d h)))

module _ {A : Type 0} (f : List ℕ → List Declaration → List A) where
  -- what a text says
  pub at_text : (sources : List (Vec ℕ Global)) (texts : List SignatureText) (i : ℕ) (s : Vec ℕ Global) (t : SignatureText) → i < length sources → s ≡ get_or sources i s → i < length texts → t ≡ get_or texts i t →
      of_text f sources texts i ≡ f s.items t.lines.items
  at_text [] texts i s t h is k at = absurd (omega (arith, h))
  at_text (x ∷ xs) [] i s t h is k at = absurd (omega (arith, k))
  at_text (x ∷ xs) (y ∷ ys) zero s t h is k at = ap (λ x. f x.items y.lines.items) (sym is) ∙ ap (λ y. f s.items y.lines.items) (sym at)
  at_text (x ∷ xs) (y ∷ ys) (suc i) s t h is k at = at_text xs ys i s t (omega (arith, h)) is (omega (arith, k)) at

  module _ (sources : List (Vec ℕ Global)) (texts : List SignatureText) where
    pub at_enter : (step : Step) (i : ℕ) (said : List A) → step ≡ Enter i → said ≡ said ++ of_step f sources texts step
    at_enter step i said is = sym (append-nil said) ∙ ap (λ s. said ++ of_step f sources texts s) (sym is)

    pub at_declare : (step : Step) (i : ℕ) (said : List A) → step ≡ Declare i → said ++ of_text f sources texts i ≡ said ++ of_step f sources texts step
    at_declare step i said is = ap (λ s. said ++ of_step f sources texts s) (sym is)

    pub steps_append : (xs ys : List Step) → of_steps f sources texts (xs ++ ys) ≡ of_steps f sources texts xs ++ of_steps f sources texts ys
    steps_append [] ys = refl
    steps_append (x ∷ xs) ys = ap (λ z. of_step f sources texts x ++ z) (steps_append xs ys) ∙ sym (append_assoc (of_step f sources texts x) (of_steps f sources texts xs) (of_steps f sources texts ys))

    -- one more step
    pub steps_more : (steps : List Step) (k : ℕ) (d : Step) → k < length steps → of_steps f sources texts (take k steps) ++ of_step f sources texts (get_or steps k d) ≡ of_steps f sources texts (take (k + 1) steps)
    steps_more steps k d h =
        ap (λ z. of_steps f sources texts (take k steps) ++ z) (sym (append-nil (of_step f sources texts (get_or steps k d)))) ∙ sym (steps_append (take k steps) (get_or steps k d ∷ [])) ∙
        ap (of_steps f sources texts) (sym (take_more steps k d h))

    pub all_steps_said : (steps seen : List Step) (k : ℕ) → seen ≡ steps → length seen ≤ k → of_steps f sources texts (take k seen) ≡ of_steps f sources texts steps
    all_steps_said steps seen k same h = ap (of_steps f sources texts) (take_all k seen h ∙ same)

-- a sentence that says nothing of operators, and one that does
pub no_fixities : (operators : Operators) (text : List ℕ) (l d : Declaration) → l ≡ d → fixities_by text d ≡ [] → (said : List (Row (Fixity × ℕ))) → KnowsOperators operators said → KnowsOperators operators (said ++ fixities_by text l)
no_fixities operators text l d is none said k = subst (KnowsOperators operators) (sym (append-nil said) ∙ ap (λ z. said ++ z) (sym none) ∙ ap (λ l. said ++ fixities_by text l) (sym is)) k

pub its_fixities : (operators : Operators) (text : List ℕ) (l : Declaration) (names : Vec Spot Global) (spots : List Spot) (f : Fixity) (n : ℕ) → l ≡ Fixities names f n → spots ≡ names.items → (said : List (Row (Fixity × ℕ))) →
    KnowsOperators operators (said ++ (if nat_le n 255 then each text (f, n) spots else [])) → KnowsOperators operators (said ++ fixities_by text l)
its_fixities operators text l names spots f n is same said k =
    subst (λ l. KnowsOperators operators (said ++ fixities_by text l)) (sym is) (subst (λ s. KnowsOperators operators (said ++ (if nat_le n 255 then each text (f, n) s else []))) same k)

pub no_names : (names : Names) (text : List ℕ) (l d : Declaration) → l ≡ d → said_by text d ≡ [] → (said : List (Row Said)) → Knows names said → Knows names (said ++ said_by text l)
no_names names text l d is none said k = subst (Knows names) (sym (append-nil said) ∙ ap (λ z. said ++ z) (sym none) ∙ ap (λ l. said ++ said_by text l) (sym is)) k

pub its_names : (names : Names) (text : List ℕ) (l d : Declaration) (rows : List (Row Said)) → l ≡ d → rows ≡ said_by text d → (said : List (Row Said)) → Knows names (said ++ rows) → Knows names (said ++ said_by text l)
its_names names text l d rows is same said k = subst (λ l. Knows names (said ++ said_by text l)) (sym is) (subst (λ r. Knows names (said ++ r)) same k)
