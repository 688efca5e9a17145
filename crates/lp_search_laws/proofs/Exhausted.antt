-- The search is right, with negation: its answers are sound, and after `NoMore` all.
use Rattle.std.proofs.Common.{◌≡◌, ℕ, List, length, Some, inl}
use Rattle.lp_lemmas.specs.Each.{EachOf}
use Rattle.lp_standard.specs.Schemes.{IsStandard}
use Rattle.lp_model.specs.Unify.{unit_limit}
use Rattle.lp_model.specs.Flat.{Goals, Clause}
use Rattle.lp_model.specs.Flatten.{ClauseFormula, flatten_query}
use Rattle.lp_model.specs.Skeleton.{row_limit, run}
use Rattle.lp_model.specs.Search.{look, start}
use Rattle.lp_model.specs.Proofs.{AreFlattened, Declared}
use Rattle.lp_model.specs.Answers.{Query}
use Rattle.lp_search_laws.specs.Begun.{first_branch, first_typing}
use Rattle.lp_search_laws.specs.Failed.{InAny, IsFailedSearch}
use Rattle.lp_search_laws.specs.Given.{IsGiven}
use Rattle.lp_search_laws.specs.Right.{IsRightBy}
use Rattle.lp_search_laws.specs.Started.{IsTypedQuery, IsTypedSentence}
use Rattle.lp_search_laws.specs.Branches.{going}
use Rattle.lp_search_laws.proofs.Begins.{each_sentence, program_typed, solves, start_typed}
use Rattle.lp_search_laws.proofs.Consistent.{excludes_failing, proves_failing, typed_run}
use Rattle.lp_search_laws.proofs.FailedSearches.{failed_same, program_kept, setting_of}
use Rattle.lp_search_laws.proofs.Sound.{each_given, each_proved}

pub right_by_failing : (d : Declared) → IsStandard d → (l : ℕ) (F : List ClauseFormula) (P : List Clause) → EachOf (IsTypedSentence d) F → AreFlattened d F P → (q : Query) (gs : Goals) → IsTypedQuery d q → flatten_query l d q.formula ≡ Some gs →
    (n j m steps answers : ℕ) → IsRightBy (IsFailedSearch InAny d P) (IsGiven n d P q gs) d F q (run (look unit_limit n P) j m (start q.type_vars (length q.vars) gs steps answers))
right_by_failing d std l F P s x q gs t e n j m steps answers =
    let typed = program_typed d std F P s x in
    let same = failed_same InAny d P in
    let kept = program_kept d F P same (each_sentence d F s) x in
    let r = typed_run d std P typed (IsFailedSearch InAny d P) same n j q (λ k. Unit {0}) (λ k. Unit {0}) (λ y z k h. h) (λ y z k h. h)
    (proves_failing d std P typed n j q (λ k. Unit {0}))
    (excludes_failing d std P typed n j q (λ k. Unit {0}))
    m row_limit steps answers (going (first_typing q gs) (first_branch q.type_vars (length q.vars) gs)) (start_typed d std l q gs t e n steps answers).1 in
    record {
      typed = r.typed;
      is = r.is;
      well_formed = r.well_formed;
      given = each_given n d P q gs r.typed r.given;
      sound = each_proved d std F P same kept l s x q gs t e r.typed r.well_formed (r.sound tt);
      exhausts = λ y i p. r.exhausts y tt i (inl (solves d (setting_of d same std) l q gs t e F P s x kept i p));
    }
