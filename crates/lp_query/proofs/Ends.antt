-- How a query ends, from how its search or its compiling did.
use Rattle.std.proofs.Common.{◌≡◌, Bool, true, false, ℕ, List, [], Option, Result, Ok, Err, refl, sym, ap, subst, ◌∙◌, arith, inl, inr}
use Rattle.std.specs.Prelude.{◌⊎◌, IsErrAnd, IfOk, IfErr}
use Rattle.lp_base.specs.Counts.{Counts}
use Rattle.lp_model.specs.Shown.{Entry}
use Rattle.lp_answers.specs.declared.stopped.Stopped.{Stopped}
use Rattle.lp_answers.specs.declared.stopped.Stopped.TheVariants as stop
use Rattle.lp_answers.specs.declared.stopped.Written.{Written}
use Rattle.lp_answers.specs.Texts.{no_answer, Stopping, MayReport, reports_in}
use Rattle.lp_answers.proofs.Appending.{appends_nothing}
use Rattle.lp_query.specs.declared.fault.AskRefusal.{AskRefusal}
use Rattle.lp_query.specs.declared.fault.AskRefusal.TheVariants.{Lex, Syntax, Infer, Form, Limit, Write, Memory, NotThere}
use Rattle.lp_query.specs.Faults.{IsOfQuery, IsOfWriting, IsAskRefusal, IsNotThere, IsUnwritten, IsShownRefusal}
use Rattle.lp_query.specs.Refusals.{of_stop}
use Rattle.lp_query.specs.Outcomes.{Answered, Broke}

pub writing_stop : (s : Stopped) → IsOfWriting (of_stop s)
writing_stop stop.Write = tt
writing_stop stop.Memory = tt

pub ask_of_query : (text : List ℕ) (e : AskRefusal) → IsOfQuery text e → IsAskRefusal text e
ask_of_query text (Lex f) h = h
ask_of_query text (Syntax f) h = tt
ask_of_query text (Infer f) h = tt
ask_of_query text (Form f) h = tt
ask_of_query text (Limit l) h = tt
ask_of_query text Write h = tt
ask_of_query text Memory h = tt
ask_of_query text (NotThere n) h = h

pub ask_of_writing : (text : List ℕ) (e : AskRefusal) → IsOfWriting e → IsAskRefusal text e
ask_of_writing text (Lex f) h = absurd h
ask_of_writing text (Syntax f) h = tt
ask_of_writing text (Infer f) h = tt
ask_of_writing text (Form f) h = tt
ask_of_writing text (Limit l) h = tt
ask_of_writing text Write h = tt
ask_of_writing text Memory h = tt
ask_of_writing text (NotThere n) h = h

module _ (es : List Entry) (ns : List (List ℕ)) (watched : Bool) (most : ℕ) where
  pub broke_before : (o : Option (List ℕ)) → Broke es ns watched most o o Memory
  broke_before o = (0, (omega arith, record { text = []; answers = no_answer; appended = appends_nothing o }))

  pub broke_stop : (o n : Option (List ℕ)) (s : Stopped) → Stopping es ns (MayReport watched) most o n s → Broke es ns watched most o n (of_stop s)
  broke_stop o n stop.Write h = h
  broke_stop o n stop.Memory h = h

  pub broke_query : (text : List ℕ) (o : Option (List ℕ)) (e : AskRefusal) → IsOfQuery text e → Broke es ns watched most o o e
  broke_query text o (Lex f) h = refl
  broke_query text o (Syntax f) h = refl
  broke_query text o (Infer f) h = refl
  broke_query text o (Form f) h = refl
  broke_query text o (Limit l) h = refl
  broke_query text o Write h = absurd h
  broke_query text o Memory h = broke_before o
  broke_query text o (NotThere n) h = absurd h

  pub broke_shown : (text : List ℕ) (names shown : List (List ℕ)) (o : Option (List ℕ)) (e : AskRefusal) → IsShownRefusal text names shown e → Broke es ns watched most o o e
  broke_shown text names shown o (Lex f) h = refl
  broke_shown text names shown o (Syntax f) h = refl
  broke_shown text names shown o (Infer f) h = refl
  broke_shown text names shown o (Form f) h = refl
  broke_shown text names shown o (Limit l) h = refl
  broke_shown text names shown o Write h = absurd h
  broke_shown text names shown o Memory h = broke_before o
  broke_shown text names shown o (NotThere n) h = refl

counts_as : (P Q : Type 0) (o n : ℕ) → (P → Q) → (Q → P) → Counts P o n → Counts Q o n
counts_as P Q o n f g c = record { never_falls = c.never_falls; rises_only_then = λ h. f (c.rises_only_then h); risen = λ q. c.risen (g q) }

pub ok_counts : (w : Written) (o n : ℕ) → Counts (◌≡◌ {A = Result Written Stopped} (Ok w) (Err stop.Write)) o n → Counts (◌≡◌ {A = Result Written AskRefusal} (Ok w) (Err Write)) o n
ok_counts w o n c = counts_as (◌≡◌ {A = Result Written Stopped} (Ok w) (Err stop.Write)) (◌≡◌ {A = Result Written AskRefusal} (Ok w) (Err Write)) o n (λ e. absurd (cc)) (λ e. absurd (cc)) c

pub stop_counts : (r : Result Written AskRefusal) (s : Stopped) (o n : ℕ) → IsErrAnd r (λ e. e ≡ of_stop s) → Counts (◌≡◌ {A = Result Written Stopped} (Err s) (Err stop.Write)) o n → Counts (r ≡ Err Write) o n
stop_counts (Ok w) s o n h c = absurd h
stop_counts (Err e) stop.Write o n h c = counts_as (◌≡◌ {A = Result Written Stopped} (Err stop.Write) (Err stop.Write)) (◌≡◌ {A = Result Written AskRefusal} (Err e) (Err Write)) o n (λ z. ap Err h) (λ z. refl) c
stop_counts (Err e) stop.Memory o n h c =
    counts_as (◌≡◌ {A = Result Written Stopped} (Err stop.Memory) (Err stop.Write)) (◌≡◌ {A = Result Written AskRefusal} (Err e) (Err Write)) o n (λ z. absurd (cc)) (λ z. let y : ◌≡◌ {A = AskRefusal} Memory Write = cc in absurd (cc)) c

-- one that is said of some names, which are such
module _ (V : List (List ℕ) → Type 0) (es : List Entry) (watched : Bool) (most : ℕ) (o n : Option (List ℕ)) (ns : List (List ℕ)) (v : V ns) where
  pub of_some_names : (r : Result Written AskRefusal) → IfOk r (Answered es ns watched most o n) → IfOk r (λ w. (names : List (List ℕ)) × (V names × Answered es names watched most o n w))
  of_some_names (Ok w) h = (ns, (v, h))
  of_some_names (Err e) h = tt

  pub broke_some_names : (r : Result Written AskRefusal) → IfErr r (Broke es ns watched most o n) → IfErr r (λ e. (names : List (List ℕ)) × ((V names ⊎ IsUnwritten o n e) × Broke es names watched most o n e))
  broke_some_names (Ok w) h = tt
  broke_some_names (Err e) h = (ns, (inl v, h))

pub refused_writing : (text : List ℕ) (r : Result Written AskRefusal) → IfErr r IsOfWriting → IfErr r (IsAskRefusal text)
refused_writing text (Ok w) h = tt
refused_writing text (Err e) h = ask_of_writing text e h

-- nothing was written, and the refusal is no failed piece
pub still_counts : {T : Type 0} (r : Result T AskRefusal) (e : AskRefusal) (n : ℕ) → IsErrAnd r (λ y. y ≡ e) → (e ≡ Write → ⊥) → Counts (r ≡ Err Write) n n
still_counts (Ok w) e n h f = absurd h
still_counts (Err y) e n h f = record { never_falls = omega arith; rises_only_then = λ l. absurd (omega (arith, l)); risen = λ q. let z : y ≡ Write = cc in absurd (f (sym h ∙ z)) }

pub no_write : (e : AskRefusal) → ((text : List ℕ) → IsOfQuery text e) → e ≡ Write → ⊥
no_write e h z = subst (IsOfQuery []) z (h [])

pub no_write_shown : (names shown : List (List ℕ)) (e : AskRefusal) → ((text : List ℕ) → IsShownRefusal text names shown e) → e ≡ Write → ⊥
no_write_shown names shown e h z = subst (IsShownRefusal [] names shown) z (h [])

-- a refusal that is passed up
pub passed_counts : {T U : Type 0} (r : Result U AskRefusal) (e : AskRefusal) (o n : ℕ) → IsErrAnd r (λ y. y ≡ e) → Counts (◌≡◌ {A = Result T AskRefusal} (Err e) (Err Write)) o n → Counts (r ≡ Err Write) o n
passed_counts (Ok w) e o n h c = absurd h
passed_counts {T} {U} (Err y) e o n h c =
    counts_as (◌≡◌ {A = Result T AskRefusal} (Err e) (Err Write)) (◌≡◌ {A = Result U AskRefusal} (Err y) (Err Write)) o n (λ q. let z : e ≡ Write = cc in ap Err (h ∙ z)) (λ q. let z : y ≡ Write = cc in ap Err (sym h ∙ z)) c

pub done_counts : {T U : Type 0} (t : T) (u : U) (o n : ℕ) → Counts (◌≡◌ {A = Result T AskRefusal} (Ok t) (Err Write)) o n → Counts (◌≡◌ {A = Result U AskRefusal} (Ok u) (Err Write)) o n
done_counts {T} {U} t u o n c = counts_as (◌≡◌ {A = Result T AskRefusal} (Ok t) (Err Write)) (◌≡◌ {A = Result U AskRefusal} (Ok u) (Err Write)) o n (λ e. absurd (cc)) (λ e. absurd (cc)) c

-- a refusal of the query, or of the names to be shown
abbrev pub IsShownFault : (List (List ℕ) → Type 0) → List ℕ → List (List ℕ) → AskRefusal → Type 0
IsShownFault V text shown e = IsAskRefusal text e ⊎ ((names : List (List ℕ)) × (V names × IsNotThere names shown e))

module _ (V : List (List ℕ) → Type 0) (text : List ℕ) (shown : List (List ℕ)) where
  pub shown_fault : (names : List (List ℕ)) (e : AskRefusal) → V names → IsShownRefusal text names shown e → IsShownFault V text shown e
  shown_fault names (Lex f) v h = inl h
  shown_fault names (Syntax f) v h = inl tt
  shown_fault names (Infer f) v h = inl tt
  shown_fault names (Form f) v h = inl tt
  shown_fault names (Limit l) v h = inl tt
  shown_fault names Write v h = inl tt
  shown_fault names Memory v h = inl tt
  shown_fault names (NotThere n) v h = inr (names, (v, h))

  pub writing_fault : (r : Result Written AskRefusal) → IfErr r IsOfWriting → IfErr r (IsShownFault V text shown)
  writing_fault (Ok w) h = tt
  writing_fault (Err e) h = inl (ask_of_writing text e h)

  pub any_fault : (e : AskRefusal) → IsShownFault V text shown e → IsAskRefusal text e ⊎ ((names : List (List ℕ)) × IsNotThere names shown e)
  any_fault e (inl h) = inl h
  any_fault e (inr h) = inr (h.0, h.1.1)

-- a refusal before anything was written
pub query_unwritten : (text : List ℕ) (o : Option (List ℕ)) (e : AskRefusal) → IsOfQuery text e → IsUnwritten o o e
query_unwritten text o e h = (λ z. subst (IsOfQuery text) z h, refl)

pub shown_unwritten : (text : List ℕ) (names shown : List (List ℕ)) (o : Option (List ℕ)) (e : AskRefusal) → IsShownRefusal text names shown e → IsUnwritten o o e
shown_unwritten text names shown o e h = (λ z. subst (IsShownRefusal text names shown) z h, refl)

pub for_ok : {P : Type 0} (r : Result Written AskRefusal) → P → IfOk r (λ w. P)
for_ok (Ok w) p = p
for_ok (Err e) p = tt

pub for_err : {P : Type 0} (Q : AskRefusal → Type 0) (r : Result Written AskRefusal) → P → IfErr r (λ e. P ⊎ Q e)
for_err Q (Ok w) p = tt
for_err Q (Err e) p = inl p

pub may_report : (watched : Bool) (reports : List ℕ) → MayReport watched (reports_in watched reports)
may_report true reports = λ e. absurd (cc)
may_report false reports = λ e. refl
