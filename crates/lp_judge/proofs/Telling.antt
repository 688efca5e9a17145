-- The status with which a judgement ends, and what is written of it.
use Rattle.std.proofs.Common.{◌≡◌, ◌≢◌, ℕ, ◌<◌, List, ◌∷◌, length, map, Option, refl, sym, ap, ◌∙◌, subst, inl, inr, arith, true, length-append}
use Rattle.std.specs.Global.{Global}
use Rattle.std.specs.Prelude.{Vec, codes}
use Rattle.std.proofs.lemmas.List.{length-map}
use Rattle.lp_base.specs.Held.{Held}
use Rattle.lp_base.specs.Written.{Appends}
use Rattle.lp_base.specs.declared.status.Status.{Status}
use Rattle.lp_base.specs.declared.status.Status.TheVariants as variant
use Rattle.lp_calculus.specs.Term.{Term}
use Rattle.lp_module.specs.declared.module.Module.{Module}
use Rattle.lp_lambda.specs.First.{formulas_of, IsVerdict}
use Rattle.lp_lambda.specs.declared.first.Verdict.{Verdict}
use Rattle.lp_lambda.specs.declared.first.Verdict.TheVariants.{Yes, Clause, Query}
use Rattle.lp_lines.specs.Lines.{is_of_search}
use Rattle.lp_lines.specs.Refusals.{IsRefusal, IsSourceRefusal, line_of, status_of}
use Rattle.lp_lines.specs.declared.refusal.Refusal.{Refusal}
use Rattle.lp_lines.specs.declared.refusal.Refusal.TheVariants.{Line, Memory}
use Rattle.lp_lines.proofs.Refusing.{never_done}
use Rattle.lp_lines.proofs.Statuses.{not_otherwise, said_of_search}
use Rattle.lp_term.specs.Nodes.{Nodes, tree}
use Rattle.lp_model.specs.declared.program.Typed.{Typed}
use Rattle.lp_judge.specs.Asked.{AreToldTexts}
use Rattle.lp_judge.specs.Judged.{names_of, verdict_line, verdict_status, IsJudgement, IsVerdictLine, Judges}

-- no refusal says that something is not so

source_not_no : (said : Status) (line : Vec ℕ Global) → IsSourceRefusal (Line said line) → said ≢ variant.No
source_not_no said line h e = elim h [ inl a ↦ cc | inr x ↦ elim x [ inl a ↦ cc | inr y ↦ elim y [ inl a ↦ cc | inr z ↦ let b = z.0 in cc ] ] ]

pub never_no : (r : Refusal) → IsRefusal r → status_of r ≢ variant.No
never_no (Line said line) h = λ e. elim h [ inl a ↦ cc | inr x ↦ source_not_no said line x e ]
never_no Memory h = λ e. cc

module _ (told : Option Held) (name text : List ℕ) (a b : Option (List ℕ)) (result : Status) where
  -- a run that ends with another status judges nothing
  judges_not : (said : Status) → (result ≢ variant.WriteFault → result ≡ said) → said ≢ variant.Done → said ≢ variant.No → Judges told name text a b result
  judges_not said kept n m = record { yes = λ e. absurd (not_otherwise result said variant.Done kept (λ f. cc) n e); no = λ e. absurd (not_otherwise result said variant.No kept (λ f. cc) m e) }

  pub judges_refused : (r : Refusal) → IsRefusal r → (result ≢ variant.WriteFault → (result ≡ status_of r) × Appends a b (line_of r)) → Judges told name text a b result
  judges_refused r h kept = judges_not (status_of r) (λ n. (kept n).0) (never_done r h) (never_no r h)

  pub judges_memory : (result ≢ variant.WriteFault → result ≡ variant.Memory) → Judges told name text a b result
  judges_memory kept = judges_not variant.Memory kept (λ e. cc) (λ e. cc)

  -- a judgement that was told
  judges_told : (line : List ℕ) (said : Status) → IsJudgement told name text line said → (result ≢ variant.WriteFault → (result ≡ said) × Appends a b line) → Judges told name text a b result
  judges_told line said j kept = record { yes = λ e. written (λ f. cc); no = λ e. written (λ f. cc) }
    where
      written : result ≢ variant.WriteFault → (l : List ℕ) × IsJudgement told name text l result × Appends a b l
      written n = (line, subst (IsJudgement told name text line) (sym (kept n).0) j, (kept n).1)

  -- the verdict on the modules of the texts and the query
  pub judges_texts : (ms : List Module) (bank : Nodes) (query : Typed) (line : List ℕ) (said : Status) → AreToldTexts told name text ms bank query →
      IsVerdictLine ms (tree bank query.formula.0) line said
      → (result ≢ variant.WriteFault → (result ≡ said) × Appends a b line) → Judges told name text a b result
  judges_texts ms bank query line said h t kept = judges_told line said (record { modules = ms; bank = bank; query = query; texts = h; verdict = t }) kept

verdict_of_search : (v : Verdict) → is_of_search (verdict_status v) ≡ true
unfolding is_of_search
verdict_of_search Yes = refl
verdict_of_search (Clause m n) = refl
verdict_of_search Query = refl

verdict_no_fault : (v : Verdict) → verdict_status v ≢ variant.WriteFault
verdict_no_fault Yes = λ e. cc
verdict_no_fault (Clause m n) = λ e. cc
verdict_no_fault Query = λ e. cc

module _ (ms : List Module) (q : Term) (line : List ℕ) (said : Status) (j : IsVerdictLine ms q line said) where
  pub judgement_no_fault : said ≢ variant.WriteFault
  judgement_no_fault e = verdict_no_fault j.verdict (sym j.ends ∙ e)

  pub judgement_of_search : (result : Status) → (result ≢ variant.WriteFault → result ≡ said) → result ≢ variant.WriteFault → is_of_search result ≡ true
  judgement_of_search result kept = said_of_search result said (ap is_of_search j.ends ∙ verdict_of_search j.verdict) kept

-- the module of a clause that fails
pub place_there : (ms : List Module) (q : Term) (m n : ℕ) → IsVerdict (map formulas_of ms) q (Clause m n) → m < length ms
place_there ms q m n v =
    let e = ap length v.3 in
    let l = length-append v.0 (v.1 ∷ v.2) in
    let k = length-map ms formulas_of in
    omega (arith, e, l, k, v.4)

-- the line of each verdict on modules and a query
module _ (ms xs : List Module) where
  moved : (q p : Term) (v w : Verdict) → xs ≡ ms → p ≡ q → v ≡ w → IsVerdict (map formulas_of xs) p v → IsVerdict (map formulas_of ms) q w
  moved q p v w e f i h = subst (λ z. IsVerdict (map formulas_of z) q w) e (subst (λ z. IsVerdict (map formulas_of xs) z w) f (subst (IsVerdict (map formulas_of xs) p) i h))

  pub line_of_yes : (q p : Term) (line : List ℕ) (v : Verdict) → xs ≡ ms → p ≡ q → v ≡ Yes → IsVerdict (map formulas_of xs) p v → line ≡ codes "yes\n" → IsVerdictLine ms q line variant.Done
  line_of_yes q p line v e f i h l = record { verdict = Yes; right = moved q p v Yes e f i h; says = l; ends = refl }

  pub line_of_query : (q p : Term) (line : List ℕ) (v : Verdict) → xs ≡ ms → p ≡ q → v ≡ Query → IsVerdict (map formulas_of xs) p v → line ≡ codes "no: query\n" → IsVerdictLine ms q line variant.No
  line_of_query q p line v e f i h l = record { verdict = Query; right = moved q p v Query e f i h; says = l; ends = refl }

  pub line_of_clause : (ys : List Module) (q p : Term) (line : List ℕ) (v : Verdict) (m n : ℕ) → xs ≡ ms → ys ≡ ms → p ≡ q → v ≡ Clause m n
      → IsVerdict (map formulas_of xs) p v → line ≡ verdict_line (names_of ys) (Clause m n) → IsVerdictLine ms q line variant.No
  line_of_clause ys q p line v m n e k f i h l = record {
    verdict = Clause m n;
    right = moved q p v (Clause m n) e f i h;
    says = l ∙ ap (λ z. verdict_line (names_of z) (Clause m n)) k;
    ends = refl;
  }
