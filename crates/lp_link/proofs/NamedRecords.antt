-- Where records denote clauses, each of them is run, and names only records that are there.
use Rattle.std.proofs.Common.{◌≡◌, ◌<◌, ℕ, zero, suc, List, [], ◌∷◌, ◌++◌, map, length, Bool, true, false, Option, Some, None, refl, arith}
use Rattle.std.specs.Prelude.{option_map, option_and_then, if◌then◌else◌, not, nat_eq, nat_lt, ◌&&◌, ◌||◌, slice_get}
use Rattle.std.proofs.lemmas.Bool.{not-false}
use Rattle.lp_lemmas.proofs.Booleans.{and_true_left, and_true_right, or_false_right}
use Rattle.lp_lemmas.specs.Each.{EachOf}
use Rattle.lp_lemmas.proofs.Each.{each_append}
use Rattle.lp_lemmas.proofs.Options.{option_map_some}
use Rattle.lp_model.specs.Flat.{Clause, Clauses, clauses}
use Rattle.lp_code.specs.declared.instruction.Instr.{Instr}
use Rattle.lp_code.specs.declared.instruction.Instr.TheVariants as on
use Rattle.lp_code.specs.declared.record.Record.{Record}
use Rattle.lp_code.specs.declared.rule.Rule.{Rule}
use Rattle.lp_code.specs.declared.rule.Rule.TheVariants as rule
use Rattle.lp_code.specs.States.{Captured, State, Home, member}
use Rattle.lp_code.specs.Steps.{Later, after, effect, captured_by, clauses_of_records}
use Rattle.lp_code.specs.Rules.{breaks_clause, is_assumed_record, names_of, names_in, named_before, are_fine_names}
use Rattle.lp_code.specs.Denote.{broken_by_record, broken_by, rules, first_broken, broken_of, Ran, Done, Broken, Void, run_on, run, first_state, clause_ran, denoted}
use Rattle.lp_link.proofs.MovedRuns.{one_more, unless_done}

-- the rule on clauses, which is the last but one
clause_rule_kept : (test : Rule → Bool) → first_broken test rules ≡ None → test rule.Clause ≡ false
clause_rule_kept test e = (one_more test rule.Clause (rule.Key ∷ []) (nine e)).0
  where
    rest : (r : Rule) (rs : List Rule) → first_broken test (r ∷ rs) ≡ None → first_broken test rs ≡ None
    rest r rs e = (one_more test r rs e).1

    nine : first_broken test rules ≡ None → first_broken test (rule.Clause ∷ rule.Key ∷ []) ≡ None
    nine e =
        rest rule.Block (rule.Clause ∷ rule.Key ∷ []) (rest rule.Head (rule.Block ∷ rule.Clause ∷ rule.Key ∷ [])
        (rest rule.Order (rule.Head ∷ rule.Block ∷ rule.Clause ∷ rule.Key ∷ []) (rest rule.Term (rule.Order ∷ rule.Head ∷ rule.Block ∷ rule.Clause ∷ rule.Key ∷ [])
        (rest rule.Index (rule.Term ∷ rule.Order ∷ rule.Head ∷ rule.Block ∷ rule.Clause ∷ rule.Key ∷ [])
        (rest rule.Typing (rule.Index ∷ rule.Term ∷ rule.Order ∷ rule.Head ∷ rule.Block ∷ rule.Clause ∷ rule.Key ∷ [])
        (rest rule.Constant (rule.Typing ∷ rule.Index ∷ rule.Term ∷ rule.Order ∷ rule.Head ∷ rule.Block ∷ rule.Clause ∷ rule.Key ∷ [])
        (rest rule.Set (rule.Constant ∷ rule.Typing ∷ rule.Index ∷ rule.Term ∷ rule.Order ∷ rule.Head ∷ rule.Block ∷ rule.Clause ∷ rule.Key ∷ [])
        (rest rule.Unset (rule.Set ∷ rule.Constant ∷ rule.Typing ∷ rule.Index ∷ rule.Term ∷ rule.Order ∷ rule.Head ∷ rule.Block ∷ rule.Clause ∷ rule.Key ∷ [])
        (rest rule.Register (rule.Unset ∷ rule.Set ∷ rule.Constant ∷ rule.Typing ∷ rule.Index ∷ rule.Term ∷ rule.Order ∷ rule.Head ∷ rule.Block ∷ rule.Clause ∷ rule.Key ∷ []) e)))))))))

clause_fine : (h : Home) (s : State) (i : Instr) (is : List Instr) → broken_of rules h s (i ∷ is) ≡ None → breaks_clause h s i ≡ false
clause_fine h s i is e = by (nat_eq s.place 0) e
  where
    by : (b : Bool) → (if b then first_broken (λ r. broken_by_record h s r || broken_by h s is i r) rules else first_broken (broken_by h s is i) rules) ≡ None → breaks_clause h s i ≡ false
    by true e = or_false_right (broken_by_record h s rule.Clause) (breaks_clause h s i) (clause_rule_kept (λ r. broken_by_record h s r || broken_by h s is i r) e)
    by false e = clause_rule_kept (broken_by h s is i) e

-- a record that is there, and denotes a clause
abbrev pub IsAnswered : Home → Later → ℕ → Type 0
IsAnswered h later k = (k < length h.records) × (c : Captured) × (d : Clause) × (later k c ≡ Some d)

there : {A : Type 0} (xs : List A) (k : ℕ) (x : A) → slice_get xs k ≡ Some x → k < length xs
there [] k x e = absurd (let z : None ≡ Some x = e in cc)
there (y ∷ xs) zero x e = omega arith
there (y ∷ xs) (suc k) x e = let l = there xs k x e in omega (arith, l)

assumed_there : (rs : List Record) (k ts vs : ℕ) → is_assumed_record (slice_get rs k) ts vs ≡ true → k < length rs
assumed_there rs k ts vs e = by (slice_get rs k) refl e
  where
    by : (o : Option Record) → slice_get rs k ≡ o → is_assumed_record o ts vs ≡ true → k < length rs
    by None h e = absurd (let z : false ≡ true = e in cc)
    by (Some r) h e = there rs k r h

names_answered : (h : Home) (later : Later) (c : Captured) (named : List ℕ) (ts vs : ℕ) (ns : List ℕ) (cs : Clauses) → are_fine_names h named ts vs ns
    ≡ true → clauses_of_records later ns c ≡ Some cs → EachOf (IsAnswered h later) ns
names_answered h later c named ts vs [] cs e a = tt
names_answered h later c named ts vs (k ∷ ns) cs e a =
    let first = nat_lt h.number k in
    let second = is_assumed_record (slice_get h.records k) ts vs in
    let third = not (member k named) in
    let last = are_fine_names h (k ∷ named) ts vs ns in
    let both = and_true_left (first && second) third (and_true_left ((first && second) && third) last e) in
    by (λ ds. names_answered h later c (k ∷ named) ts vs ns ds (and_true_right ((first && second) && third) last e))
    (assumed_there h.records k ts vs (and_true_right first second both)) (later k c) refl a
  where
    Goes : Type 0
    Goes = (ds : Clauses) → clauses_of_records later ns c ≡ Some ds → EachOf (IsAnswered h later) ns

    rest : Goes → (d : Clause) (o : Option Clauses) → clauses_of_records later ns c ≡ o → option_map (clauses d) o ≡ Some cs → EachOf (IsAnswered h later) ns
    rest more d None q a = absurd (let z : None ≡ Some cs = a in cc)
    rest more d (Some ds) q a = more ds q

    by : Goes → k < length h.records → (o : Option Clause) → later k c ≡ o → option_and_then
        (λ d. option_map (clauses d) (clauses_of_records later ns c)) o ≡ Some cs → EachOf (IsAnswered h later) (k ∷ ns)
    by more l None q a = absurd (let z : None ≡ Some cs = a in cc)
    by more l (Some d) q a = ((l, c, d, q), rest more d (clauses_of_records later ns c) refl a)

-- what an instruction names
named_answered : (h : Home) (later : Later) (s : State) (i : Instr) (t : State) → breaks_clause h s i ≡ false → after h later s i ≡ Some t → EachOf (IsAnswered h later) (names_of i)
named_answered h later s (on.TyCon d k ts) t b e = tt
named_answered h later s (on.TyArr d a y) t b e = tt
named_answered h later s (on.TyNew d) t b e = tt
named_answered h later s (on.New d x) t b e = tt
named_answered h later s (on.PutConst d c ts) t b e = tt
named_answered h later s (on.PutInt d z) t b e = tt
named_answered h later s (on.PutStr d y) t b e = tt
named_answered h later s (on.PutIndex d i x) t b e = tt
named_answered h later s (on.PutAbs d y x) t b e = tt
named_answered h later s (on.PutApp d x rs) t b e = tt
named_answered h later s (on.GetType i x) t b e = tt
named_answered h later s (on.GetVar i d) t b e = tt
named_answered h later s (on.Get i r) t b e = tt
named_answered h later s (on.GetConst i c ts) t b e = tt
named_answered h later s (on.GetInt i z) t b e = tt
named_answered h later s (on.GetStr i y) t b e = tt
named_answered h later s on.Neck t b e = tt
named_answered h later s (on.Call c ts rs) t b e = tt
named_answered h later s (on.CallTerm r) t b e = tt
named_answered h later s (on.Equal x l r) t b e = tt
named_answered h later s (on.Is x l r) t b e = tt
named_answered h later s (on.Less l r) t b e = tt
named_answered h later s (on.Greater l r) t b e = tt
named_answered h later s (on.AtMost l r) t b e = tt
named_answered h later s (on.AtLeast l r) t b e = tt
named_answered h later s on.Cut t b e = tt
named_answered h later s (on.Sigma d x) t b e = tt
named_answered h later s (on.All d x) t b e = tt
named_answered h later s on.EndAll t b e = tt
named_answered h later s (on.Assume ns ts rs) t b e =
    let named = named_before h.number h.records ++ map (λ (a : ℕ × Captured). a.0) s.assumed in
    let done = option_map_some (effect h later s (on.Assume ns ts rs)) _ t e in
    let told = option_map_some (clauses_of_records later ns.items (captured_by s ts.items rs.items)) _ done.0 done.1 in
    names_answered h later (captured_by s ts.items rs.items) named (length ts.items) (length rs.items) ns.items told.0
    (not-false (are_fine_names h named (length ts.items) (length rs.items) ns.items) b) told.1
named_answered h later s on.EndAssume t b e = tt
named_answered h later s (on.Either k) t b e = tt
named_answered h later s (on.Jump k) t b e = tt
named_answered h later s on.Proceed t b e = tt
named_answered h later s on.Not t b e = tt
named_answered h later s on.EndNot t b e = tt

-- what the instructions of a run name
pub run_answered : (h : Home) (later : Later) (is : List Instr) (s t : State) → run h later s is ≡ Done t → EachOf (IsAnswered h later) (names_in is)
run_answered h later [] s t e = tt
run_answered h later (i ∷ is) s t e =
    let done = unless_done (broken_of rules h s (i ∷ is)) s.place (run_on (λ u. run h later u is) (after h later s i)) t e in
    by (λ u. run_answered h later is u t) (clause_fine h s i is done.0) (after h later s i) refl done.1
  where
    by : ((u : State) → run h later u is ≡ Done t → EachOf (IsAnswered h later) (names_in is)) → breaks_clause h s i ≡ false → (o : Option State) →
        after h later s i ≡ o → run_on (λ u. run h later u is) o ≡ Done t → EachOf (IsAnswered h later) (names_of i ++ names_in is)
    by more b None q a = absurd (let z : Void ≡ Done t = a in cc)
    by more b (Some u) q a = each_append (IsAnswered h later) (names_of i) (names_in is) (named_answered h later s i u b q) (more u a)

pub denoted_answered : (h : Home) (later : Later) (c : Captured) (d : Clause) → denoted h later c ≡ Some d → EachOf (IsAnswered h later) (names_in h.self.code.items)
denoted_answered h later c d e = by (run h later (first_state h.self c) h.self.code.items) refl e
  where
    by : (o : Ran) → run h later (first_state h.self c) h.self.code.items ≡ o → clause_ran h o ≡ Some d → EachOf (IsAnswered h later) (names_in h.self.code.items)
    by (Done t) q e = run_answered h later h.self.code.items (first_state h.self c) t q
    by (Broken at r) q e = absurd (let z : None ≡ Some d = e in cc)
    by Void q e = absurd (let z : None ≡ Some d = e in cc)
