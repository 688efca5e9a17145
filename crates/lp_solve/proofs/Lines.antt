-- The lines of answers, of one behind others, and as lp_show gives them.
use Rattle.std.proofs.Common.{◌≡◌, ℕ, suc, ◌+◌, List, [], ◌∷◌, ◌++◌, map, length, refl, sym, ap, ◌∙◌, subst, inl, inr, arith, append_assoc, append-nil}
use Rattle.std.specs.Global.{Global}
use Rattle.std.specs.Prelude.{IfErr, IfOk, Result, Ok, Err, Vec}
use Rattle.std.proofs.lemmas.List.{map-append}
use Rattle.lp_lemmas.specs.Each.{AnyOf}
use Rattle.lp_calculus.specs.Term.{Term}
use Rattle.lp_term.specs.Frame.{in_order}
use Rattle.lp_term.specs.Nodes.{Nodes, tree}
use Rattle.lp_term.specs.declared.reduce.TermRefusal.{TermRefusal}
use Rattle.lp_term.specs.declared.reduce.TermRefusal.TheVariants as refusal
use Rattle.lp_model.specs.Branch as definition
use Rattle.lp_model.specs.Readings.{pair_of}
use Rattle.lp_model.specs.Shown.{Entry, shown_answer}
use Rattle.lp_model.specs.declared.answer.Answer.{Answer}
use Rattle.lp_model.specs.declared.answer.Pair as code
use Rattle.lp_show.specs.Forms.{AreForms, AreSides, IsDeep, IsFirstDeep, IsShownForm, pair_trees, sides_of, values_of}
use Rattle.lp_solve.specs.Written.{AreLines, ArePairsShown, CannotBeShown, IsLines, IsShownAs, IsTooLarge, terms_shown}
use Rattle.lp_solve.specs.inner.Events.{IfDeep, plain}

-- one answer more
module _ (es : List Entry) (ns : List (List ℕ)) where
  pub lines_more : (k number : ℕ) (xs : List definition.Answer) (x : definition.Answer) (text lines : List ℕ) → number ≡ length xs + k → AreLines es
      ns k xs text → IsLines es ns number x lines → AreLines es ns k (xs ++ x ∷ []) (text ++ lines)
  lines_more k number [] x text lines e h is =
      let n : number ≡ 0 + k = e in
      let at : number ≡ k = omega arith in
      (lines, [], subst (λ j. IsLines es ns j x lines) at is, refl, ap (λ w. w ++ lines) h ∙ sym (append-nil lines))
  lines_more k number (y ∷ xs) x text lines e (l, m, one, more, w) is =
      let n : number ≡ suc (length xs) + k = e in
      let behind : number ≡ length xs + suc k = omega arith in
      (l, m ++ lines, one, lines_more (suc k) number xs x m lines behind more is, ap (λ t. t ++ lines) w ∙ append_assoc l m lines)

  -- of the code's answers, numbered from 1
  pub told_more : (bs : List Answer) (a : Answer) (text lines : List ℕ) → AreLines es ns 1 (map plain bs) text → IsLines es ns (suc (length bs))
      (plain a) lines → AreLines es ns 1 (map plain (bs ++ a ∷ [])) (text ++ lines)
  told_more bs a text lines h is =
      let n : suc (length bs) ≡ length (map plain bs) + 1 = let e = length_mapped bs in omega arith in
      subst (λ xs. AreLines es ns 1 xs (text ++ lines)) (sym (map-append plain bs (a ∷ []))) (lines_more 1 (suc (length bs)) (map plain bs) (plain a) text lines n h is)
    where
      length_mapped : (bs : List Answer) → length (map plain bs) ≡ length bs
      length_mapped [] = refl
      length_mapped (a ∷ bs) = ap suc (length_mapped bs)

-- what is shown
shown_as : (t s : Term) → IsShownForm t s → IsShownAs t s
shown_as t s h = record { form = h.form; small = h.nodes }

pairs_shown : (b : Nodes) (ps : List code.Pair) (qs : List (Term × Term)) → AreSides (pair_trees b ps) qs → ArePairsShown (map (pair_of b) ps) qs
pairs_shown b [] [] h = tt
pairs_shown b [] (q ∷ qs) h = h
pairs_shown b (p ∷ ps) [] h = h
pairs_shown b (p ∷ ps) (q ∷ qs) (l, r, more) = (shown_as (tree b p.left.0) q.0 l, shown_as (tree b p.right.0) q.1 r, pairs_shown b ps qs more)

abbrev pub TellsLines : List Entry → List (List ℕ) → (number : ℕ) → Answer → Result (Vec ℕ Global) TermRefusal → Type 0
TellsLines es ns k a r =
    IfOk r (λ text. (forms : List Term) × ((sides : List (Term × Term)) × (AreForms ns (in_order a.bank a.values.items) forms × AreSides
    (pair_trees a.bank a.pairs.items) sides × (text.items ≡ shown_answer es k ns forms sides))))

pub lines_told : (es : List Entry) (ns : List (List ℕ)) (k : ℕ) (a : Answer) (r : Result (Vec ℕ Global) TermRefusal) → TellsLines es ns k a r → IfOk r (λ text. IsLines es ns k (plain a) text.items)
lines_told es ns k a (Ok text) (forms, (sides, (f, s, e))) = record { forms = forms; sides = sides; are_forms = f; are_sides = pairs_shown a.bank a.pairs.items sides s; is = e }
lines_told es ns k a (Err e) h = tt

-- what is not
too_large : (t : Term) (k : ℕ) → IsDeep t (refusal.Deep k) → IsTooLarge t
too_large t k (inl (e, h)) = inl h
too_large t k (inr (e, (s, within, form, n))) = inr (s, form, n)

first_too_large : (ts : List Term) (k : ℕ) → IsFirstDeep ts (refusal.Deep k) → AnyOf IsTooLarge ts
first_too_large [] k h = h
first_too_large (t ∷ ts) k (inl h) = inl (too_large t k h)
first_too_large (t ∷ ts) k (inr (s, h)) = inr (first_too_large ts k h)

sides_same : (b : Nodes) (ps : List code.Pair) → sides_of (pair_trees b ps) ≡ sides_of (map (λ p. (p.left, p.right)) (map (pair_of b) ps))
sides_same b [] = refl
sides_same b (p ∷ ps) = ap (λ ts. tree b p.left.0 ∷ tree b p.right.0 ∷ ts) (sides_same b ps)

abbrev pub TellsDeep : List (List ℕ) → Answer → Result (Vec ℕ Global) TermRefusal → Type 0
TellsDeep ns a r = IfErr r (IsFirstDeep (values_of ns (in_order a.bank a.values.items) ++ sides_of (pair_trees a.bank a.pairs.items)))

pub deep_told : (ns : List (List ℕ)) (a : Answer) (r : Result (Vec ℕ Global) TermRefusal) → TellsDeep ns a r → IfErr r (IfDeep (CannotBeShown ns (plain a)))
deep_told ns a (Ok text) h = tt
deep_told ns a (Err (refusal.Deep k)) h =
    first_too_large (terms_shown ns (plain a)) k (subst (λ ts. IsFirstDeep (values_of ns (in_order a.bank a.values.items) ++ ts) (refusal.Deep k)) (sides_same a.bank a.pairs.items) h)
deep_told ns a (Err refusal.Memory) h = tt
