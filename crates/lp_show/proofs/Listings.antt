-- The lines of an answer, one after the other.
use Rattle.std.proofs.Common.{◌≡◌, ℕ, List, [], ◌∷◌, ◌++◌, Bool, true, false, refl, sym, ap, ap₂, ◌∙◌, append_assoc}
use Rattle.std.specs.Prelude.{if◌then◌else◌}
use Rattle.lp_calculus.specs.Term.{Term}
use Rattle.lp_model.specs.Shown.{Entry, is_shown, pair_lines, value_lines, values_shown, variables_of_pairs, variables_of_values, with_variables}
use Rattle.lp_show.specs.Lines.{pair_line, value_line}

variables_first : (vs : List ℕ) (b : Bool) (n : List ℕ) (t : Term) (rest : List (List ℕ × Term)) →
    variables_of_values vs (if b then (n, t) ∷ rest else rest) ≡ variables_of_values (if b then with_variables vs t else vs) rest
variables_first vs true n t rest = refl
variables_first vs false n t rest = refl

-- the variables of a value more
pub variables_next : (vs new : List ℕ) (n : List ℕ) (ns rest_n : List (List ℕ)) (t : Term) (ts rest_t : List Term) (all : List ℕ) → rest_n ≡ n ∷ ns → rest_t ≡ t ∷ ts → new ≡ (if is_shown n then with_variables vs t else vs) →
    variables_of_values vs (values_shown rest_n rest_t) ≡ all → variables_of_values new (values_shown ns ts) ≡ all
variables_next vs new n ns rest_n t ts rest_t all p q e inv =
    ap (λ l. variables_of_values l (values_shown ns ts)) e ∙ sym (variables_first vs (is_shown n) n t (values_shown ns ts)) ∙ sym (ap₂ (λ l m. variables_of_values vs (values_shown l m)) p q) ∙ inv

pub variables_next_pair : (vs mid new : List ℕ) (p : Term × Term) (ps rest : List (Term × Term)) (all : List ℕ) → rest ≡ p ∷ ps → mid ≡ with_variables vs p.0 → new ≡ with_variables mid p.1 →
    variables_of_pairs vs rest ≡ all → variables_of_pairs new ps ≡ all
variables_next_pair vs mid new p ps rest all q d e inv = ap (λ l. variables_of_pairs l ps) (e ∙ ap (λ l. with_variables l p.1) d) ∙ sym (ap (variables_of_pairs vs) q) ∙ inv

module _ (es : List Entry) (vs : List ℕ) where
  lines_first : (b : Bool) (n : List ℕ) (t : Term) (rest : List (List ℕ × Term)) → (if b then value_line es vs n t else []) ++ value_lines es vs rest ≡ value_lines es vs (if b then (n, t) ∷ rest else rest)
  lines_first true n t rest = refl
  lines_first false n t rest = refl

  -- a line more
  pub lines_next : (out new : List ℕ) (n : List ℕ) (ns rest_n : List (List ℕ)) (t : Term) (ts rest_t : List Term) (all : List ℕ) → rest_n ≡ n ∷ ns → rest_t ≡ t ∷ ts → new ≡ out ++ (if is_shown n then value_line es vs n t else []) →
      out ++ value_lines es vs (values_shown rest_n rest_t) ≡ all → new ++ value_lines es vs (values_shown ns ts) ≡ all
  lines_next out new n ns rest_n t ts rest_t all p q e inv =
      ap (λ l. l ++ value_lines es vs (values_shown ns ts)) e ∙ append_assoc out (if is_shown n then value_line es vs n t else []) (value_lines es vs (values_shown ns ts)) ∙
      ap (λ l. out ++ l) (lines_first (is_shown n) n t (values_shown ns ts) ∙ sym (ap₂ (λ l m. value_lines es vs (values_shown l m)) p q)) ∙ inv

  pub lines_next_pair : (out new : List ℕ) (p : Term × Term) (ps rest : List (Term × Term)) (all : List ℕ) → rest ≡ p ∷ ps → new ≡ out ++ pair_line es vs p.0 p.1 → out ++ pair_lines es vs rest ≡ all → new ++ pair_lines es vs ps ≡ all
  lines_next_pair out new p ps rest all q e inv =
      ap (λ l. l ++ pair_lines es vs ps) e ∙ append_assoc out (pair_line es vs p.0 p.1) (pair_lines es vs ps) ∙ ap (λ l. out ++ l) (sym (ap (pair_lines es vs) q)) ∙ inv

pub five_pieces : (out o1 o2 o3 o4 o5 a b c d e : List ℕ) → o1 ≡ out ++ a → o2 ≡ o1 ++ b → o3 ≡ o2 ++ c → o4 ≡ o3 ++ d → o5 ≡ o4 ++ e → o5 ≡ out ++ (a ++ (b ++ (c ++ (d ++ e))))
five_pieces out o1 o2 o3 o4 o5 a b c d e p q r s t =
    t ∙ ap (λ l. l ++ e) (s ∙ ap (λ l. l ++ d) (r ∙ ap (λ l. l ++ c) (q ∙ ap (λ l. l ++ b) p))) ∙ around out a b c d e
  where
    around : (u a b c d e : List ℕ) → ((((u ++ a) ++ b) ++ c) ++ d) ++ e ≡ u ++ (a ++ (b ++ (c ++ (d ++ e))))
    around u a b c d e = simp append_assoc

-- the lines together
pub all_lines : (E es : List Entry) (V vs : List ℕ) (shown : List (List ℕ × Term)) (pairs : List (Term × Term)) (first start mid out : List ℕ) → start ≡ first → mid ≡ start ++ value_lines E V shown → out ≡ mid ++ pair_lines E V pairs →
    E ≡ es → V ≡ vs → out ≡ first ++ (value_lines es vs shown ++ pair_lines es vs pairs)
all_lines E es V vs shown pairs first start mid out s m o e v =
    o ∙ ap (λ l. l ++ pair_lines E V pairs) (m ∙ ap (λ l. l ++ value_lines E V shown) s) ∙ append_assoc first (value_lines E V shown) (pair_lines E V pairs) ∙
    ap₂ (λ x y. first ++ (value_lines x y shown ++ pair_lines x y pairs)) e v
