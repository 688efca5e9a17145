-- Goals below an assumption.
use Rattle.std.proofs.Common.{◌≡◌, ◌≤◌, ◌<◌, ℕ, ◌+◌, List, [], ◌∷◌, ◌++◌, map, length, true, false, Some, Vec, Global, ap, refl, arith}
use Rattle.std.specs.Prelude.{not, is_none, sum_by, option_map}
use Rattle.std.specs.List.{list_any}
use Rattle.std.proofs.lemmas.List.Sums.{sum_by-append}
use Rattle.lp_model.specs.Flat.{Goals, Clauses, Assume}
use Rattle.lp_code.specs.declared.instruction.Instr.{Instr}
use Rattle.lp_code.specs.declared.instruction.Instr.TheVariants as on
use Rattle.lp_code.specs.Length.{length_of}
use Rattle.lp_code.specs.Symbolic.{held}
use Rattle.lp_code.specs.States.{under_assumption, Captured, State, Home, with_goal, depth}
use Rattle.lp_code.specs.Steps.{Later, captured_by, clauses_of_records, handed}
use Rattle.lp_code.specs.Rules.{ends_block, nesting_limit, named_before, are_fine_names}
use Rattle.lp_code.specs.Written.{nothing_written}
use Rattle.lp_gen.specs.inner.Running.{TypesStand, TermsStand, HasRoom, MayEnd}
use Rattle.lp_gen.specs.inner.Doing.{Says}
use Rattle.lp_gen.specs.inner.Bodies.{Opened, frame_of, opened_state}
use Rattle.lp_gen.proofs.Denoting.{room_less, may_strict}
use Rattle.lp_gen.proofs.GoalPut.{keeps_rules, plain_rules}
use Rattle.lp_gen.proofs.BlockEnds.{block_ends, opened_by}
use Rattle.lp_gen.proofs.Quantified.{Inner, not_deep}
use Rattle.lp_gen.proofs.Bytes.{some_length}

pub assume_said : (h : Home) (later : Later) (vars n o k p : ℕ) (s : State) (v w x : Vec ℕ Global) (cs : Clauses) (js : List Instr) (X : Goals → List (ℕ × Captured) → Type 0) → s.in_body ≡ true →
    depth s.frames < nesting_limit → TypesStand h vars n s → TermsStand h k s → list_any (λ t. is_none (held s.now.types t)) w.items ≡ false →
    list_any (λ r. is_none (held s.now.terms r)) x.items ≡ false →
    are_fine_names h (named_before h.number h.records ++ map (λ (a : ℕ × Captured). a.0) s.assumed) (length w.items) (length x.items) v.items ≡ true →
    clauses_of_records later v.items (captured_by s w.items x.items) ≡ Some cs → MayEnd s (s.place + sum_by length_of (on.Assume v w x ∷ [] ++ (js ++ on.EndAssume ∷ []))) →
    ((t : State) → Opened h later vars n n k k s (on.Assume v w x ∷ []) (frame_of s (under_assumption cs))
    (handed v.items (captured_by s w.items x.items)) t → Inner h later vars n o k p t js X) → n ≤ o →
    (gs : Goals) × (b : List (ℕ × Captured)) × X gs b × (y : State)
    × Says h later vars n o k p s (on.Assume v w x ∷ [] ++ (js ++ on.EndAssume ∷ [])) (with_goal s.goals (Assume nothing_written cs gs)) (handed v.items (captured_by s w.items x.items) ++ b) y
assume_said h later vars n o k p s v w x cs js X body shallow st te types terms names told room inner le =
    let c = captured_by s w.items x.items in
    let i = on.Assume v w x in
    let size = sum_by-append length_of (i ∷ []) (js ++ on.EndAssume ∷ []) in
    let more = sum_by-append length_of js (on.EndAssume ∷ []) in
    let one : sum_by length_of (i ∷ []) ≡ 0 + length_of i = refl in
    let last : sum_by length_of (on.EndAssume ∷ []) ≡ 1 = refl in
    let long = some_length i in
    let after : HasRoom s (s.place + length_of i) = may_strict (s.place + length_of i)
    (s.place + sum_by length_of (i ∷ [] ++ (js ++ on.EndAssume ∷ []))) s.frames (omega (arith, size, more, one, last)) room in
    let here : HasRoom s s.place = room_less s.place (s.place + length_of i) s.frames (omega arith) after in
    let opened = opened_by h later vars n k s i (under_assumption cs) (handed v.items c)
    (ap (option_map (λ (ds : Clauses). opened_state s (under_assumption ds) (s.assumed ++ handed v.items c))) told) refl refl long
    (keeps_rules h vars n k s i w.items x.items st te (record {
      types_read_is = refl;
      terms_read_is = refl;
      types_set_is = refl;
      terms_set_is = refl;
      types_are = types;
      terms_are = terms;
      constant_is = refl;
      type_is = refl;
      index_is = refl;
      term_is = refl;
      order_is = ap not body;
      head_is = refl;
      nesting_is = λ rest. not_deep s shallow;
      clause_is = ap not names;
    }) here) body refl st te after in
    let q = inner opened.0 opened.1 in
    let gs = q.0 in
    let b = q.1 in
    let u = q.3 in
    let y = q.4 in
    let z = block_ends h later vars n n o k k p s opened.0 u (frame_of s (under_assumption cs)) (i ∷ []) js on.EndAssume gs
    (Assume nothing_written cs gs) (handed v.items c) b opened.1 y refl refl refl (λ q. refl)
    refl refl refl (omega arith) refl
    (λ strict innermost. plain_rules h vars o p u on.EndAssume y.types_stand y.terms_stand refl refl refl refl refl refl refl refl refl refl
    (λ rest. ap (λ k. not (ends_block on.EndAssume k)) innermost) refl strict)
    body st te room in
    (gs, b, q.2, z.0, z.1)
