-- What is written of a query on pattern text has no equation.
use Rattle.std.proofs.Common.{◌≡◌, ℕ, suc, List, [], ◌∷◌, ◌++◌, length, Option, Some, refl, sym, ap, ◌∙◌, subst, inl, inr}
use Rattle.std.specs.Prelude.{◌⊎◌}
use Rattle.std.proofs.lemmas.List.{length-map}
use Rattle.lp_base.specs.Held.{Held}
use Rattle.lp_base.specs.declared.status.Status.{Status}
use Rattle.lp_lemmas.specs.Each.{EachOf}
use Rattle.lp_calculus.specs.Fill.{Within}
use Rattle.lp_calculus.specs.Term.{Term}
use Rattle.lp_calculus.specs.Types.{var}
use Rattle.lp_term.specs.Mapped.{Map, mapped}
use Rattle.lp_watch.specs.Seen.{Seen}
use Rattle.lp_model.specs.Answers.{Query}
use Rattle.lp_model.specs.Branch.{Answer}
use Rattle.lp_model.specs.Flat.{Clause, Goals}
use Rattle.lp_model.specs.Flatten.{ClauseFormula}
use Rattle.lp_model.specs.Pair.{Pair}
use Rattle.lp_model.specs.Proofs.{Declared}
use Rattle.lp_model.specs.Search.{start}
use Rattle.lp_model.specs.Shown.{Entry, shown_answer}
use Rattle.lp_model.specs.Skeleton.{Told}
use Rattle.lp_model.specs.declared.ending.Ending.{Ending}
use Rattle.lp_search_laws.specs.Started.{IsQueryAtom}
use Rattle.lp_search_laws.proofs.Comes.{search_comes}
use Rattle.lp_pattern_laws.specs.Formulas as formulas
use Rattle.lp_pattern_laws.specs.Formulas.{IsPatternSentence, IsRenumbering}
use Rattle.lp_pattern_laws.proofs.FormulaRuns.{formulas_no_pairs}
use Rattle.lp_pattern_laws.proofs.PatternTasks.{HasNoPair}
use Rattle.lp_module.proofs.HighNumbers.{copies_high}
use Rattle.lp_lambda.specs.Pattern.{IsPatternClause, IsPatternQuery}
use Rattle.lp_lines.specs.Lines.{ending_line, memory_line}
use Rattle.lp_solve.specs.Queries.{IsExact, IsFlat, IsQuery, constants, entries, first_state, names, told_by}
use Rattle.lp_solve.specs.Reported.{MayReport}
use Rattle.lp_solve.specs.Solved.{IsAnswered}
use Rattle.lp_solve.specs.Sources.{query_of, source_clauses}
use Rattle.lp_solve.specs.Written.{AreLines, ArePairsShown, IsLast, IsWritten, an_ending, no_memory}
use Rattle.lp_solve.proofs.Texts.DeclaredTypes.{declared_types}
use Rattle.lp_solve.proofs.Texts.Program.{copies_fair, program_typed}
use Rattle.lp_solve.proofs.Texts.Query.{query_typed}
use Rattle.lp_equation_laws.specs.Printed.{IsPatternText, PrintsValues, value_lines}
use Rattle.lp_equation_laws.proofs.Copied.{copied, renumberings}

module _
    (accepted : (D : ClauseFormula) → Within (IsQueryAtom D.type_vars) 0 D.formula → IsPatternClause D.formula → IsPatternSentence D)
    (asked : (q : Query) → Within (IsQueryAtom q.type_vars) (length q.vars) q.formula → IsPatternQuery q.formula → formulas.IsPatternQuery q)
    (renumbered : (m : Map) → IsRenumbering m → (D : ClauseFormula) → IsPatternSentence D → IsPatternSentence (record { type_vars = D.type_vars; formula = mapped m D.formula }))
    (own : (m : Map) → IsRenumbering m → ((x : ℕ) → m.types x ≡ var x) → (D : ClauseFormula) → Within (IsQueryAtom D.type_vars) 0 (mapped m D.formula) → Within (IsQueryAtom D.type_vars) 0 D.formula) where
  -- the search leaves no equation
  pub no_equation : {told : Option Held} {name text : List ℕ} (q : IsQuery told name text) → IsPatternText q → (d : Declared) (P : List Clause) (gs : Goals) → IsFlat q d P gs →
      (n j m steps answers : ℕ) → EachOf HasNoPair (told_by P n j m (first_state q gs steps answers)).answers
  no_equation {text = text} q (judged, query_judged) d P gs f n j m steps answers =
      let l = q.loaded in
      let p = l.program in
      let is = p.is in
      let program = is.program.program in
      let h = declared_types l.sources q.built p l.read in
      let sentences = program_typed l.sources q.built p d f.types in
      let typed = query_typed d f.types.standard q.built.signature f.types.queries text q.asked.raw.term q.bank q.typed q.asked.typed in
      let numbers = renumberings program.copied (copies_fair is.modules is.program.root program.copied program.are) (copies_high is.modules h.joined is.program.root program.copied program.are) in
      let patterns = copied accepted renumbered own d is.modules judged program.copied numbers sentences in
      let query = query_of q.bank q.typed in
      let same : start query.type_vars (length query.vars) gs steps answers ≡ first_state q gs steps answers = ap (λ k. start q.typed.type_vars k gs steps answers) (length-map q.typed.vars.items _) in
      subst (λ s. EachOf HasNoPair (told_by P n j m s).answers) same
      (formulas_no_pairs d f.types.standard f.depth (source_clauses p) P sentences f.clauses patterns query gs typed f.goals (asked query typed.within query_judged) n j m steps answers)

-- the lines of answers without an equation
no_sides : (ps : List Pair) (sides : List (Term × Term)) → ps ≡ [] → ArePairsShown ps sides → sides ≡ []
no_sides [] [] e h = refl
no_sides [] (s ∷ ss) e h = absurd h
no_sides (p ∷ ps) sides e h = absurd (cc)

lines_of_values : (es : List Entry) (ns : List (List ℕ)) (k : ℕ) (xs : List Answer) (text : List ℕ) → AreLines es ns k xs text → EachOf HasNoPair xs → (values : List (List Term)) × (text ≡ value_lines es ns k values)
lines_of_values es ns k [] text e h = ([], e)
lines_of_values es ns k (a ∷ xs) text (lines, more, l, ls, e) (h, hs) =
    let (values, is) = lines_of_values es ns (suc k) xs more ls hs in
    let alone = l.is ∙ ap (shown_answer es k ns l.forms) (no_sides a.pairs l.sides h l.are_sides) in
    (l.forms ∷ values, e ∙ (λ i. alone i ++ is i))

front : {A : Type 0} (Q : A → Type 0) (xs ys : List A) → EachOf Q (xs ++ ys) → EachOf Q xs
front Q [] ys h = tt
front Q (x ∷ xs) ys (h, hs) = (h, front Q xs ys hs)

last_tells : {exact : Type 0} {ns : List (List ℕ)} {may : Ending → List ℕ → Type 0} {left : List Answer} {ending : Option Ending} {status : Status} {last : List ℕ} → IsLast exact ns may left ending status last →
    ((e : Ending) × (reports : List ℕ) × (last ≡ ending_line e ++ reports)) ⊎ (last ≡ memory_line)
last_tells (an_ending e reports end may st is) = inl (e, reports, is)
last_tells (no_memory st is) = inr is

written_values : (exact : ℕ → Type 0) (es : List Entry) (ns : List (List ℕ)) (may : Ending → List ℕ → Type 0) (t : Told Answer) (status : Status) (text : List ℕ) → IsWritten exact es ns may t status text → EachOf HasNoPair t.answers → PrintsValues es ns text
written_values exact es ns may t status text w h =
    let (values, is) = lines_of_values es ns 1 w.shown w.lines w.are_lines (front HasNoPair w.shown w.left (subst (EachOf HasNoPair) w.answers h)) in
    record {
      values = values;
      last = w.last;
      wrote = w.wrote ∙ ap (λ l. l ++ w.last) is;
      ends = last_tells w.is_last;
    }

-- what is written, once the search is over
pub no_equation_printed : {told : Option Held} {name query : List ℕ} (q : IsQuery told name query) (watchers : Option (List Seen)) (steps answers : ℕ) (status : Status) (text : List ℕ) →
    ((d : Declared) (P : List Clause) (gs : Goals) → IsFlat q d P gs → (n j m : ℕ) → EachOf HasNoPair (told_by P n j m (first_state q gs steps answers)).answers) →
    IsAnswered told name query q watchers steps answers status text → PrintsValues (entries q) (names q) text
no_equation_printed {query = query} q watchers steps answers status text none a =
    let d = a.flat.types in
    let P = a.flat.clauses in
    let gs = a.flat.goals in
    let f = a.flat.flat in
    let F = source_clauses q.loaded.program in
    let std = f.types.standard in
    let asked = query_of q.bank q.typed in
    let sentences = program_typed q.loaded.sources q.built q.loaded.program d f.types in
    let typed = query_typed d std q.built.signature f.types.queries query q.asked.raw.term q.bank q.typed q.asked.typed in
    let comes = search_comes d std f.depth F P sentences f.clauses asked gs typed f.goals steps answers in
    let n = comes.1.enough in
    let same : start asked.type_vars (length asked.vars) gs steps answers ≡ first_state q gs steps answers = ap (λ k. start q.typed.type_vars k gs steps answers) (length-map q.typed.vars.items _) in
    let over : (told_by P n n n (first_state q gs steps answers)).ending ≡ Some comes.1.ending =
    ap (λ s. (told_by P n n n s).ending) (sym same) ∙ ap (λ (t : Told Answer). t.ending) comes.1.tells ∙ comes.1.ends in
    elim (a.search d P gs f n n n) [
      | inl w ↦ written_values (IsExact P n (first_state q gs steps answers)) (entries q) (names q) (MayReport (constants q) watchers (told_by P n n n (first_state q gs steps answers))) (told_by P n n n (first_state q gs steps answers)) status text w (none d P gs f n n n)
      | inr b ↦ absurd (let no_end = sym b.lasts ∙ over in cc)
    ]
