-- A record at work moves as the state of the definition does.
use Rattle.std.proofs.Common.{◌≡◌, ◌∙◌, ◌≤◌, ◌<◌, ℕ, suc, ◌+◌, List, [], ◌∷◌, ◌++◌, map, length, reverse, append_assoc, zero-add, Bool, true, false, Option, Some, None, ap, refl, sym, subst, arith}
use Rattle.std.specs.BTreeMap.{BTreeMap, get}
use Rattle.std.specs.Prelude.{nat_eq, nat_le, is_some, not, ◌||◌, ◌&&◌, ◌^◌, if◌then◌else◌, unwrap_or, slice_get}
use Rattle.std.specs.Ordering.{nat_cmp}
use Rattle.std.specs.List.{list_any}
use Rattle.std.proofs.lemmas.Bool.{ne_eqb, leb-false, lt-leb}
use Rattle.lp_lemmas.proofs.Lists.{append_nil_sym}
use Rattle.lp_lemmas.proofs.Booleans.{or_false_left, or_false_right}
use Rattle.lp_code.specs.declared.instruction.Instr.{Instr}
use Rattle.lp_code.specs.declared.instruction.Instr.TheVariants as on
use Rattle.lp_code.specs.declared.record.Record.{Record}
use Rattle.lp_code.specs.declared.rule.Rule.{Rule}
use Rattle.lp_code.specs.declared.rule.Rule.TheVariants as rule
use Rattle.lp_code.specs.Length.{length_of, Fits}
use Rattle.lp_code.specs.Operands.{types_read, terms_read, type_set, term_set}
use Rattle.lp_code.specs.States.{State, Home, Captured, member}
use Rattle.lp_code.specs.Symbolic.{Built, held, term_in, is_closed}
use Rattle.lp_code.specs.Steps.{after}
use Rattle.lp_code.specs.Rules.{breaks_type, breaks_head, breaks_order, breaks_set, breaks_unset, breaks_index, breaks_register, breaks_term, breaks_nesting, has_none, is_passed, named_before, names_of}
use Rattle.lp_code.specs.Denote.{Done, Broken, rules, first_broken, broken_by_record, broken_by, broken_of, unless_broken, run_on, run, any_clause, first_state, started, captured_of}
use Rattle.lp_verify.specs.inner.Taken.{before_neck, AreFirstTaken, TakenIn}
use Rattle.lp_verify.specs.inner.Low.{HoldsLow, HandedLow}
use Rattle.lp_verify.proofs.TakenOn.{taken_on, taken_first, taken_is, is_variable, body_from, own_has}
use Rattle.lp_verify.proofs.LowTerms.{low_behind, low_start, held_later, low_handed}
use Rattle.lp_verify.specs.declared.built.Built as kept_built
use Rattle.lp_term.specs.declared.node.TypeId.{TypeId}
use Rattle.lp_verify.specs.declared.record.Shared.{Shared}
use Rattle.lp_verify.specs.declared.record.Work.{Work}
use Rattle.lp_verify.specs.declared.whole.Whole.{Whole}
use Rattle.lp_verify.specs.declared.head.HeadSoFar.{HeadSoFar}
use Rattle.lp_verify.specs.declared.registers.Registers.{Registers}
use Rattle.lp_verify.specs.declared.blocks.Block as kept
use Rattle.lp_verify.specs.Held.{was_set, value_in, is_lacking}
use Rattle.lp_verify.specs.Named.{was_named, HasNamed}
use Rattle.lp_verify.specs.Judged.{bytes_of}
use Rattle.lp_verify.specs.inner.Outline.{Outline, outline, arguments_behind, types_behind, body_behind, taken_by, outline_behind}
use Rattle.lp_verify.specs.inner.Told.{breaks, told, broken_whole, breaks_blocks, reaches_past, loose_entries, is_loose, sets_again, names_badly, IsFirst, is_out_of_order}
use Rattle.lp_verify.specs.inner.Made.{nothing_built, type_made, term_made}
use Rattle.lp_verify.specs.inner.Stack.{Agree, type_heights, term_heights, saved_of, stack_of, types_in_stack, terms_in_stack, stack_settled, IsKept, IsStack, IsStacked, IsSettled, IsStackRun}
use Rattle.lp_verify.specs.inner.Handed.{SameType, SameTerm, IsSame, captured_in, types_captured, terms_captured, assumption_of, handed_on, AreHanded}
use Rattle.lp_verify.specs.inner.At.{kept_in, home_in, IsAt, IsRun, IsActed, IsPassed, IsStarted, IsJudgedWhole, IsWhole, IsNoWhole, HandedIn, IsRan, AreNamedBefore, NamedAt, Past, TakesAre, GoesOn}
use Rattle.lp_verify.specs.inner.Sides.{sides_in, sides_of, sides_run, sides_acted, sides_settled, is_past, is_turn, starts_from, nests_badly, first_end_of, AreEnds, HasPlaces}
use Rattle.lp_verify.proofs.Members.{member_append, from_zero_has, started_length}
use Rattle.lp_verify.proofs.Outlines.{behind, comes_behind, Nests, outline_is, with_more_is, sides_are, types_stack_is, terms_stack_is}
use Rattle.lp_verify.proofs.Sides.{same_past}
use Rattle.lp_verify.proofs.KeptBlocks.{past_is}
use Rattle.lp_verify.proofs.KeptRegisters.{run_ever, stack_runs, stack_weaker, same_lacking, same_values, stack_begins}
use Rattle.lp_verify.proofs.HandedOn.{named_has, hands_on, handed_later, same_later, few_captured}
use Rattle.lp_verify.specs.Scheme.{tables_in}
use Rattle.lp_verify.specs.inner.Language.{HasLanguage}
use Rattle.lp_verify.specs.inner.Known.{HasOwnTypes, FollowsHead, IsStill, KnowsHead, KnowsTaken, Knows}
use Rattle.lp_verify.specs.inner.Indices.{Store, StoreGrows}
use Rattle.lp_verify.specs.inner.Reads.{reads_unset}
use Rattle.lp_verify.proofs.UsedConstants.{basics_stay}
use Rattle.lp_verify.proofs.StillHead.{held_still, stays_still, not_set, own_there}
use Rattle.lp_verify.proofs.LooseSeen.{stands_later, closed_is}
use Rattle.lp_verify.proofs.Places.{some_bytes, starts_behind, same_nesting, ran_acted, last_is, turn_there, bytes_more}
use Rattle.lp_verify.proofs.Joined.{first_none, first_some, first_same, or_false, same_reads, same_sets, same_counts, same_closed, same_order, same_names}

more_arguments : (i : Instr) (m : ℕ) → arguments_behind i m ≤ m + length_of i
more_arguments (on.TyCon d k ts) m = omega arith
more_arguments (on.TyArr d a b) m = omega arith
more_arguments (on.TyNew d) m = omega arith
more_arguments (on.New d t) m = omega arith
more_arguments (on.PutConst d c ts) m = omega arith
more_arguments (on.PutInt d z) m = omega arith
more_arguments (on.PutStr d b) m = omega arith
more_arguments (on.PutIndex d i t) m = omega arith
more_arguments (on.PutAbs d b t) m = omega arith
more_arguments (on.PutApp d f rs) m = omega arith
more_arguments (on.GetType j t) m = omega arith
more_arguments (on.GetVar i d) m = omega arith
more_arguments (on.Get i r) m = omega arith
more_arguments (on.GetConst i c ts) m = omega arith
more_arguments (on.GetInt i z) m = omega arith
more_arguments (on.GetStr i b) m = omega arith
more_arguments on.Neck m = omega arith
more_arguments (on.Call c ts rs) m = omega arith
more_arguments (on.CallTerm r) m = omega arith
more_arguments (on.Equal t l r) m = omega arith
more_arguments (on.Is t l r) m = omega arith
more_arguments (on.Less l r) m = omega arith
more_arguments (on.Greater l r) m = omega arith
more_arguments (on.AtMost l r) m = omega arith
more_arguments (on.AtLeast l r) m = omega arith
more_arguments on.Cut m = omega arith
more_arguments (on.Sigma d t) m = omega arith
more_arguments (on.All d t) m = omega arith
more_arguments on.EndAll m = omega arith
more_arguments (on.Assume ns ts rs) m = omega arith
more_arguments on.EndAssume m = omega arith
more_arguments (on.Either n) m = omega arith
more_arguments (on.Jump n) m = omega arith
more_arguments on.Proceed m = omega arith
more_arguments on.Not m = omega arith
more_arguments on.EndNot m = omega arith

-- the records that were named behind an instruction
named_on : (h : Home) (s : State) (i : Instr) (m n : BTreeMap ℕ ℕ) → NamedAt h s m → HasNamed (names_of i) m n → NamedAt h (behind h s i) n
named_on h s i m n a r = λ k.
    let before = named_before h.number h.records in
    let now = map (λ (a : ℕ × Captured). a.0) s.assumed in
    let o : map (λ a. a.0) (behind h s i).assumed ≡ now ++ names_of i = ap (λ (o : Outline). o.named) (outline_is h s i) ∙ with_more_is now (names_of i) in
    r k ∙ ap (λ b. b || member k (names_of i)) (a k) ∙ sym (member_append k (before ++ now) (names_of i)) ∙ ap (member k) (append_assoc before now (names_of i) ∙ sym (ap (λ l. before ++ l) o))

-- the state behind an instruction that was run
-- of a list put together, what holds of none holds of none behind
none_behind : (f : ℕ → Bool) (xs ys : List ℕ) → list_any f (xs ++ ys) ≡ false → list_any f ys ≡ false
none_behind f [] ys h = h
none_behind f (x ∷ xs) ys h = none_behind f xs ys (or_false_right (f x) (list_any f (xs ++ ys)) h)

types_low : (m n : ℕ) (i : Instr) → reaches_past m n i ≡ false → list_any (nat_le m) (type_set i) ≡ false
types_low m n i h = none_behind (nat_le m) (types_read i) (type_set i) (or_false_left (list_any (nat_le m) (types_read i ++ type_set i)) (list_any (nat_le n) (terms_read i ++ term_set i)) h)

terms_low : (m n : ℕ) (i : Instr) → reaches_past m n i ≡ false → list_any (nat_le n) (term_set i) ≡ false
terms_low m n i h = none_behind (nat_le n) (terms_read i) (term_set i) (or_false_right (list_any (nat_le m) (types_read i ++ type_set i)) (list_any (nat_le n) (terms_read i ++ term_set i)) h)

-- the rules that a record at work needs to go on
pub record MayRun (w : Work) (i : Instr) : Type 0 where
  pub low : reaches_past w.home.record.now.types w.home.record.now.registers i ≡ false
  pub fresh : sets_again (was_set w.types) (was_set w.terms) i ≡ false
  pub nested : breaks_blocks w i ≡ false

nests : (l : Store) (s : State) (i : Instr) (w : Work) → IsAt l w s → breaks_blocks w i ≡ false → Nests i s
nests l s i w a fine =
    let code = w.home.record.now.code.items in
    let kept = or_false_right (nat_le (first_end_of (reverse w.blocks.frames.items)) w.place) (nests_badly w.place (get nat_cmp w.places.jumps) (nat_eq (w.number + 1) (length code)) (sides_in w.blocks.frames.items) i) fine in
    subst (λ ss. sides_run i s.place ss ≡ sides_acted i s.place ss) a.sides_are
    (subst (λ p. sides_run i p (sides_in w.blocks.frames.items) ≡ sides_acted i p (sides_in w.blocks.frames.items)) a.place_is (ran_acted i w.place (get nat_cmp w.places.jumps) (nat_eq (w.number + 1) (length code)) (sides_in w.blocks.frames.items) kept))

-- a stack at an offset and below sides that are equal to others
stack_moved : {A : Type 0} (i : Instr) (p q : ℕ) (ss ts : List kept.Block) (xs : List A) → p ≡ q → ss ≡ ts → stack_settled (p + length_of i) (sides_run i p ss) xs ≡ stack_settled (q + length_of i) (sides_run i q ts) xs
stack_moved i p q ss ts xs e f = λ j. stack_settled (e j + length_of i) (sides_run i (e j) (f j)) xs

types_moved : (l m : Store) (h : Home) (s : State) (i : Instr) (u : TypeId) (t : kept_built.Built) (w v : Work) → IsAt l w s → MayRun w i → IsRun i u t w v → StoreGrows l m → SameType m u (type_made h s i) → w.place + length_of i < 2 ^ 63
    → IsStack (SameType m) v.home.record.now.types v.types (type_heights (reverse v.blocks.frames.items)) (types_in_stack (stack_of (behind h s i)))
types_moved l m h s i u t w v a may r grow same small =
    let x = r.types_run small in
    let n = w.home.record.now.types in
    let ks = type_heights (reverse v.blocks.frames.items) in
    let ran =
    stack_runs (SameType m) n i (type_set i) u (w.place + length_of i) (sides_run i w.place (sides_in w.blocks.frames.items)) (type_heights (reverse w.blocks.frames.items)) ks w.types v.types (types_in_stack (stack_of s)) (type_made h s i) (types_low n w.home.record.now.registers i may.low)
    (or_false_left (list_any (was_set w.types) (type_set i)) (list_any (was_set w.terms) (term_set i)) may.fresh) (stack_weaker (SameType l) (SameType m) (λ x T. grow.1.stay x T) n w.types (type_heights (reverse w.blocks.frames.items)) (types_in_stack (stack_of s)) a.types_stand) x same in
    subst (λ n. IsStack (SameType m) n v.types ks (types_in_stack (stack_of (behind h s i)))) (sym (ap (λ h. h.record.now.types) r.home_stays))
    (subst (IsStack (SameType m) n v.types ks) (stack_moved i w.place s.place (sides_in w.blocks.frames.items) (sides_of s.frames) _ a.place_is a.sides_are ∙ sym (types_stack_is h s i (nests l s i w a may.nested))) ran)

terms_moved : (l m : Store) (h : Home) (s : State) (i : Instr) (u : TypeId) (t : kept_built.Built) (w v : Work) → IsAt l w s → MayRun w i → IsRun i u t w v → StoreGrows l m → SameTerm m t (term_made h s i) → w.place + length_of i < 2 ^ 63
    → IsStack (SameTerm m) v.home.record.now.registers v.terms (term_heights (reverse v.blocks.frames.items)) (terms_in_stack (stack_of (behind h s i)))
terms_moved l m h s i u t w v a may r grow same small =
    let x = r.terms_run small in
    let n = w.home.record.now.registers in
    let ks = term_heights (reverse v.blocks.frames.items) in
    let ran =
    stack_runs (SameTerm m) n i (term_set i) t (w.place + length_of i) (sides_run i w.place (sides_in w.blocks.frames.items)) (term_heights (reverse w.blocks.frames.items)) ks w.terms v.terms (terms_in_stack (stack_of s)) (term_made h s i) (terms_low w.home.record.now.types n i may.low)
    (or_false_right (list_any (was_set w.types) (type_set i)) (list_any (was_set w.terms) (term_set i)) may.fresh) (stack_weaker (SameTerm l) (SameTerm m) (λ x b. same_later l m x b grow) n w.terms (term_heights (reverse w.blocks.frames.items)) (terms_in_stack (stack_of s)) a.terms_stand) x same in
    subst (λ n. IsStack (SameTerm m) n v.terms ks (terms_in_stack (stack_of (behind h s i)))) (sym (ap (λ h. h.record.now.registers) r.home_stays))
    (subst (IsStack (SameTerm m) n v.terms ks) (stack_moved i w.place s.place (sides_in w.blocks.frames.items) (sides_of s.frames) _ a.place_is a.sides_are ∙ sym (terms_stack_is h s i (nests l s i w a may.nested))) ran)

pub moved : (l m : Store) (h : Home) (s : State) (i : Instr) (u : TypeId) (t : kept_built.Built) (w v : Work) → IsAt l w s → MayRun w i → IsRun i u t w v → StoreGrows l m → SameType m u (type_made h s i) → SameTerm m t (term_made h s i) → s.place + length_of i < 2 ^ 33 → IsAt m v (behind h s i)
moved l m h s i u t w v a may r grow same_type same small =
    let o : outline (behind h s i) ≡ outline_behind i (handed_on s (assumption_of i)) (taken_by s i) (outline s) = outline_is h s i in
    let p : w.place ≡ s.place = a.place_is in
    let few : length s.head_arguments ≤ s.place = a.few_arguments in
    let some = some_bytes i in
    let fewer = a.few_instructions in
    let less : w.place + length_of i < 2 ^ 63 = omega (arith, small, p) in
    let tr = r.types_run less in
    let rr = r.terms_run less in
    record {
      place_is = r.place_moves (omega (arith, small, p)) ∙ ap (λ n. n + length_of i) p ∙ sym (ap (λ (o : Outline). o.place) o);
      body_is = r.body_is ∙ ap (body_behind i) a.body_is ∙ sym (ap (λ (o : Outline). o.in_body) o);
      types_are = r.types_are ∙ ap (types_behind i) a.types_are ∙ sym (ap (λ (o : Outline). o.types) o);
      arguments_are = r.arguments_are (omega (arith, small, few, a.arguments_are)) ∙ ap (arguments_behind i) a.arguments_are ∙ sym (ap (λ (o : Outline). o.arguments) o);
      types_set = λ n. run_ever i (type_set i) u _ _ _ _ w.types v.types tr n ∙ ap (λ b. b || member n (type_set i)) (a.types_set n) ∙ sym (member_append n s.types_set (type_set i)) ∙ sym (ap (λ (o : Outline). member n o.types_set) o);
      terms_set = λ n. run_ever i (term_set i) t _ _ _ _ w.terms v.terms rr n ∙ ap (λ b. b || member n (term_set i)) (a.terms_set n) ∙ sym (member_append n s.terms_set (term_set i)) ∙ sym (ap (λ (o : Outline). member n o.terms_set) o);
      types_stand = types_moved l m h s i u t w v a may r grow same_type less;
      terms_stand = terms_moved l m h s i u t w v a may r grow same less;
      few_arguments =
          let m : arguments_behind i (length s.head_arguments) ≤ length s.head_arguments + length_of i = more_arguments i (length s.head_arguments) in
          let e : length (behind h s i).head_arguments ≡ arguments_behind i (length s.head_arguments) = ap (λ (o : Outline). o.arguments) o in
          let q : (behind h s i).place ≡ s.place + length_of i = ap (λ (o : Outline). o.place) o in
          omega (arith, m, e, q, few);
      few_instructions =
          let q : (behind h s i).place ≡ s.place + length_of i = ap (λ (o : Outline). o.place) o in
          let n = r.number_moves (omega (arith, fewer, small)) in
          omega (arith, n, q, fewer, some);
      sides_are =
          let fit = nests l s i w a may.nested in
          r.sides_move (omega (arith, small, p)) ∙ (λ j. sides_settled (p j + length_of i) (sides_run i (p j) (a.sides_are j))) ∙ ap (sides_settled (s.place + length_of i)) fit ∙ sym (sides_are h s i);
      ends_are = r.ends_stay a.ends_are;
    }

-- one instruction more was run
pub run_on_past : (l : Store) (h : Home) (all : List Instr) (i : Instr) (is : List Instr) (s : State) (u : TypeId) (t : kept_built.Built) (w v : Work) → Past all (i ∷ is) s w → IsAt l w s → IsRun i u t w v → s.place + length_of i < 2 ^ 33 → Past all is (behind h s i) v
run_on_past l h all i is s u t w v b a r small =
    let o = outline_is h s i in
    let q : (behind h s i).place ≡ s.place + length_of i = ap (λ (o : Outline). o.place) o in
    let fewer = a.few_instructions in
    let n = r.number_moves (omega (arith, fewer, small)) in
    let count : w.number + suc (length is) ≡ length all = b.count_is in
    record {
      run = b.run ++ i ∷ [];
      parts = b.parts ∙ sym (append_assoc b.run (i ∷ []) is);
      length_is = bytes_more b.run i ∙ ap (λ n. n + length_of i) b.length_is ∙ sym q;
      all_is = b.all_is ∙ sym (ap (λ h. h.record.now.code.items) r.home_stays);
      count_is = omega (arith, n, count);
      places_are = subst (λ p. HasPlaces all p.jumps) (sym r.places_stay) b.places_are;
    }

-- an instruction that was acted on is passed, and right sides that end there are left
settled_there : {T : Type 0} (i : Instr) (ds : List ℕ) (t : T) (p q : ℕ) (ss ts : List kept.Block) (hs ks : List ℕ) (js : List ℕ) (old mid new : Registers T)
    → q ≡ p + length_of i → ts ≡ sides_run i p ss → IsStacked i ds t hs old js mid → IsSettled q ts js mid ks new → IsStackRun i ds t (p + length_of i) (sides_run i p ss) hs old ks new
settled_there i ds t p q ss ts hs ks js old mid new e f x y = record { heights = js; made = mid; stacked = x; settled = subst (λ n. IsSettled n (sides_run i p ss) js mid ks new) e (subst (λ l. IsSettled q l js mid ks new) f y) }

pub passed_on : (i : Instr) (u : TypeId) (t : kept_built.Built) (old mid new : Work) → IsActed i u t old mid → new.home ≡ mid.home → new.places ≡
    mid.places → new.takings ≡ mid.takings → new.own_types ≡ mid.own_types → (mid.place + length_of i < 2 ^ 64 → new.place ≡ mid.place + length_of i)
    → (mid.number + 1 < 2 ^ 64 → new.number ≡ mid.number + 1)
    → sides_in new.blocks.frames.items ≡ sides_settled new.place (sides_in mid.blocks.frames.items) → (AreEnds (reverse mid.blocks.frames.items) → AreEnds (reverse new.blocks.frames.items)) → new.in_body ≡ mid.in_body → new.head ≡ mid.head
    → IsSettled new.place (sides_in mid.blocks.frames.items) (type_heights (reverse mid.blocks.frames.items)) mid.types (type_heights (reverse new.blocks.frames.items)) new.types
    → IsSettled new.place (sides_in mid.blocks.frames.items) (term_heights (reverse mid.blocks.frames.items)) mid.terms (term_heights (reverse new.blocks.frames.items)) new.terms → IsRun i u t old new
passed_on i u t old mid new a home places takings own place number sides ends body head types terms =
    let l = length_of i in
    let at : old.place + l < 2 ^ 63 → new.place ≡ old.place + l = λ h. place (subst (λ p. p + l < 2 ^ 64) (sym a.place_stays) (omega (arith, h))) ∙ ap (λ p. p + l) a.place_stays in
    record {
      home_stays = home ∙ a.home_stays;
      places_stay = places ∙ a.places_stay;
      takings_stay = takings ∙ a.takings_stay;
      own_stay = own ∙ a.own_stay;
      number_moves = λ h. number (subst (λ p. p + 1 < 2 ^ 64) (sym a.number_stays) h) ∙ ap (λ p. p + 1) a.number_stays;
      sides_move = λ h. let p = at h in sides ∙ (λ j. sides_settled (p j) (a.sides_act (omega (arith, h)) j));
      ends_stay = λ h. ends (a.ends_stay h);
      place_moves = λ h. place (subst (λ p. p + length_of i < 2 ^ 64) (sym a.place_stays) h) ∙ ap (λ p. p + length_of i) a.place_stays;
      body_is = body ∙ a.body_is;
      types_are = ap (λ (x : HeadSoFar). length x.types.items) head ∙ a.types_are;
      arguments_are = λ h. ap (λ (x : HeadSoFar). x.arguments) head ∙ a.arguments_are h;
      types_run = λ h.
          settled_there i (type_set i) u old.place new.place (sides_in old.blocks.frames.items) (sides_in mid.blocks.frames.items)
          (type_heights (reverse old.blocks.frames.items)) (type_heights (reverse new.blocks.frames.items))
          (type_heights (reverse mid.blocks.frames.items)) old.types mid.types new.types (at h) (a.sides_act (omega (arith, h))) a.types_act
          types;
      terms_run = λ h.
          settled_there i (term_set i) t old.place new.place (sides_in old.blocks.frames.items) (sides_in mid.blocks.frames.items)
          (term_heights (reverse old.blocks.frames.items)) (term_heights (reverse new.blocks.frames.items))
          (term_heights (reverse mid.blocks.frames.items)) old.terms mid.terms new.terms (at h) (a.sides_act (omega (arith, h))) a.terms_act
          terms;
    }

-- the record is judged before its first instruction, and else only the instruction is
both_false : (w b : Bool) → w ≡ false → b ≡ (w || b)
both_false w b h = sym (ap (λ v. v || b) h)

broken_at : (z : Bool) (f g : Rule → Bool) → (if z then first_broken (λ r. f r || g r) rules else first_broken g rules) ≡ first_broken (λ r. (z && f r) || g r) rules
broken_at true f g = refl
broken_at false f g = refl

-- the blocks that are told are those of the state
same_blocks : (l : Store) (s : State) (w : Work) (all : List Instr) (i : Instr) (is : List Instr) → IsAt l w s → Past all (i ∷ is) s w → bytes_of all < 2 ^ 32 → s.place < 2 ^ 33 → breaks_blocks w i ≡ (list_any (is_passed s.place) s.frames || breaks_nesting s is i)
same_blocks l s w all i is a b short small =
    let p : w.place ≡ s.place = a.place_is in
    let starts = get nat_cmp w.places.jumps in
    let last = nat_eq (w.number + 1) (length w.home.record.now.code.items) in
    let count : w.number + suc (length is) ≡ length all = b.count_is in
    let ends : last ≡ has_none is = last_is w.number (length w.home.record.now.code.items) is (count ∙ ap length b.all_is) in
    let past = past_is (reverse w.blocks.frames.items) w.place a.ends_are (omega (arith, small, p)) ∙ (λ j. list_any (is_past (p j)) (a.sides_are j)) ∙ same_past s.place s.frames in
    let at : is_turn i ≡ true → (q : ℕ) → s.place ≤ q → starts q ≡ starts_from s.place (i ∷ is) q =
    λ t q l. b.places_are short (ap (list_any is_turn) b.parts ∙ turn_there b.run i is t) q ∙ ap (λ l. starts_from 0 l q) b.parts ∙ starts_behind 0 q s.place b.run (i ∷ is) (zero-add (bytes_of b.run) ∙ b.length_is) l in
    (λ j. past j || nests_badly (p j) starts last (a.sides_are j) i) ∙ ap (λ c. list_any (is_passed s.place) s.frames || c) (same_nesting s is i starts last ends at)

-- the terms that are told to have a loose index
loose_there : (l k : Store) (o : Option kept_built.Built) (p : Option Built) → StoreGrows l k → Agree (SameTerm l) o p → not (has_none (loose_entries k.lists o)) ≡ not (is_closed (unwrap_or p nothing_built).loose)
loose_there l k None None grow a = refl
loose_there l k (Some t) None grow a = absurd a
loose_there l k None (Some b) grow a = absurd a
loose_there l k (Some t) (Some b) grow a = ap not (sym (closed_is k t.loose b.loose (stands_later l k t.loose b.loose grow a.0)))

same_loose : (l k : Store) (w : Work) (s : State) → StoreGrows l k → IsAt l w s → (r : ℕ) → is_loose k.lists w.terms r ≡ not (is_closed (term_in s.now r).loose)
same_loose l k w s grow a r =
    loose_there l k (value_in w.terms r) (held s.now.terms r) grow (same_values (SameTerm l) w.home.record.now.registers w.terms (term_heights (reverse w.blocks.frames.items)) s.now.terms (terms_in_stack (saved_of s.frames)) a.terms_stand r)

-- what is told before an instruction is what the definition finds there
pub same_broken : (l k : Store) (s : State) (w : Work) (m : BTreeMap ℕ ℕ) (x : Whole) (all : List Instr) (i : Instr) (is : List Instr) → StoreGrows l k → IsAt l w s → Past all (i ∷ is) s w → bytes_of all < 2 ^ 32 → s.place < 2 ^ 33 → NamedAt (home_in w.home) s m → IsWhole (home_in w.home) s x
    → broken_of rules (home_in w.home) s (i ∷ is) ≡ first_broken (breaks (told w k.lists (was_named m) x (breaks_type (home_in w.home) s i) (breaks_head (home_in w.home) s i) i)) rules
same_broken l k s w m x all i is grow a past short small names b =
    let h = home_in w.home in
    let t : Bool = nat_eq s.place 0 in
    broken_at t (broken_by_record h s) (broken_by h s is i) ∙ sym (first_same (breaks (told w k.lists (was_named m) x (breaks_type (home_in w.home) s i) (breaks_head (home_in w.home) s i) i)) (λ r. (t && broken_by_record h s r) || broken_by h s is i r)
    (ap (λ v. v || breaks_register h s i) b.register_is)
    (same_reads (is_lacking w.types) (is_lacking w.terms) s i (same_lacking (SameType l) w.home.record.now.types w.types (type_heights (reverse w.blocks.frames.items)) s.now.types (types_in_stack (saved_of s.frames)) a.types_stand)
    (same_lacking (SameTerm l) w.home.record.now.registers w.terms (term_heights (reverse w.blocks.frames.items)) s.now.terms (terms_in_stack (saved_of s.frames)) a.terms_stand) ∙ no_more t (breaks_unset s i))
    (same_sets (was_set w.types) (was_set w.terms) s i a.types_set a.terms_set ∙ no_more t (breaks_set s i))
    ((λ j. b.constant_is j || same_counts h i j))
    (no_more t (breaks_type h s i))
    (same_closed (is_loose k.lists w.terms) s i (same_loose l k w s grow a) ∙ no_more t (breaks_index s i))
    (no_more t (breaks_term i))
    ((λ j. b.order_is j || is_out_of_order (a.body_is j) (a.types_are j) (a.arguments_are j) i) ∙ ap (λ v. (t && broken_by_record h s rule.Order) || v) (same_order s i))
    (ap (λ v. v || breaks_head h s i) b.head_is)
    ((λ j. b.block_is j || same_blocks l s w all i is a past short small j))
    ((λ j. b.clause_is j || same_names h s (was_named m) i names j))
    (b.key_is ∙ sym (or_false (t && broken_by_record h s rule.Key))))
  where
    no_more : (t b : Bool) → b ≡ ((t && false) || b)
    no_more true b = refl
    no_more false b = refl

-- one instruction more
first_passes : (place n : ℕ) → 1 ≤ n → nat_eq (place + n) 0 ≡ false
first_passes place n h = ne_eqb (place + n) 0 (λ e. omega (arith, h, e))

-- what a step tells: the rules are kept, the instruction was run, its records were named, and what they start with was handed on
abbrev pub TellsFirst : Instr → Work → (x y : Shared) → Whole → Option Rule → Type 0
TellsFirst i w x y p r = (h : Home) (s : State) → Knows (kept_in x) w h s → IsFirst (told w y.lists (was_named x.named) p (breaks_type h s i) (breaks_head h s i) i) r

pub record Steps (i : Instr) (w v : Work) (x y : Shared) (p q : Whole) : Type 0 where
  pub fits : Fits i
  pub kept : TellsFirst i w x y p None
  pub passed : IsPassed i x y w v
  pub grow : StoreGrows (kept_in x) (kept_in y)
  pub clean : IsNoWhole q

-- a register that was never set holds nothing
nothing_held : (l : Store) (w : Work) (s : State) (x : ℕ) → IsAt l w s → member x s.terms_set ≡ false → held s.now.terms x ≡ None
nothing_held l w s x a e = by_value (value_in w.terms x) (held s.now.terms x) refl (same_values (SameTerm l) w.home.record.now.registers w.terms (term_heights (reverse w.blocks.frames.items)) s.now.terms (terms_in_stack (saved_of s.frames)) a.terms_stand x)
  where
    kept : IsKept w.terms
    kept = a.terms_stand.0

    by_value : (o : Option kept_built.Built) (p : Option Built) → value_in w.terms x ≡ o → Agree (SameTerm l) o p → p ≡ None
    by_value None None f h = refl
    by_value None (Some b) f h = absurd h
    by_value (Some t) None f h = absurd h
    by_value (Some t) (Some b) f h = absurd (let z : true ≡ false = sym (kept.ever x (sym (kept.trail_is x) ∙ ap is_some f)) ∙ a.terms_set x ∙ e in cc)

low_past : (m n : ℕ) (ds : List ℕ) → m ≤ n → list_any (nat_le m) ds ≡ false → list_any (nat_le n) ds ≡ false
low_past m n [] l e = refl
low_past m n (d ∷ ds) l e =
    let here : d < m = leb-false m d (or_false_left (nat_le m d) (list_any (nat_le m) ds) e) in
    (λ j. lt-leb n d (omega (arith, here, l)) j || low_past m n ds l (or_false_right (nat_le m d) (list_any (nat_le m) ds) e) j)

-- one instruction more of a head
takes_on : (l : Store) (s : State) (i : Instr) (is all : List Instr) (w v : Work) → IsAt l w s → Past all (i ∷ is) s w → MayRun w i → bytes_of all < 2 ^ 32 → s.place < 2 ^ 33 → reads_unset (is_lacking w.types) (is_lacking w.terms) i ≡ false → breaks_order s i ≡ false
    → (s.in_body ≡ false → TakenIn (home_in w.home) all (i ∷ is) w.number s) → v.number ≡ w.number + 1 → (behind (home_in w.home) s i).in_body ≡ false → TakenIn (home_in w.home) all is v.number (behind (home_in w.home) s i)
takes_on l s i is all w v a b may short small unset order taken number body =
    let h = home_in w.home in
    let n = w.home.record.now.registers in
    let from = body_from i s.in_body (sym (ap (λ (o : Outline). o.in_body) (outline_is h s i)) ∙ body) in
    let nest = or_false_right (list_any (is_passed s.place) s.frames) (breaks_nesting s is i) (sym (same_blocks l s w all i is a b short small) ∙ may.nested) in
    let read =
    sym (same_reads (is_lacking w.types) (is_lacking w.terms) s i (same_lacking (SameType l) w.home.record.now.types w.types (type_heights (reverse w.blocks.frames.items)) s.now.types (types_in_stack (saved_of s.frames)) a.types_stand)
    (same_lacking (SameTerm l) n w.terms (term_heights (reverse w.blocks.frames.items)) s.now.terms (terms_in_stack (saved_of s.frames)) a.terms_stand)) ∙ unset in
    let once = sym (same_sets (was_set w.types) (was_set w.terms) s i a.types_set a.terms_set) ∙ may.fresh in
    let low = terms_low w.home.record.now.types n i may.low in
    let next : suc w.number ≡ v.number = omega (arith, number) in
    subst (λ q. TakenIn h all is q (behind h s i)) next
    (taken_on h s i is all w.number (taken from.0) from.0 order nest read once (low_past n (length s.now.terms) (term_set i) a.terms_stand.1.1 low) (λ x e. nothing_held l w s x a e) (λ q m. own_has h s i b.run is q from.0 order (sym b.all_is ∙ b.parts) low m) from.1)

takes_known : (h : Home) (all left : List Instr) (w : Work) (s : State) → w.in_body ≡ s.in_body → TakesAre h all left w s → KnowsTaken w h s
takes_known h all left w s same t v r body e =
    let taken = t.1 (sym same ∙ body) in
    let q = taken.own v r (is_variable v h.number (term_in s.now r).term e) in
    (q.1, t.0 v w.number ∙ taken_is h all left w.number s v taken q.0)

-- what is known of the registers now
knows_now : (l : Store) (w : Work) (h : Home) (s : State) (all left : List Instr) → IsAt l w s → KnowsHead l w h s → TakesAre h all left w s → Knows l w h s
knows_now l w h s all left a k t = record {
  of_head = k;
  taken = takes_known h all left w s a.body_is t;
  types = λ n. same_values (SameType l) w.home.record.now.types w.types (type_heights (reverse w.blocks.frames.items)) s.now.types (types_in_stack (saved_of s.frames)) a.types_stand n;
  terms = λ n. same_values (SameTerm l) w.home.record.now.registers w.terms (term_heights (reverse w.blocks.frames.items)) s.now.terms (terms_in_stack (saved_of s.frames)) a.terms_stand n;
}

handed_behind : (h : Home) (s : State) (i : Instr) (before : List (ℕ × Captured)) → before ++ (behind h s i).assumed ≡ (before ++ s.assumed) ++ handed_on s (assumption_of i)
handed_behind h s i before =
    ap (λ l. before ++ l) (ap (λ (o : Outline). o.assumed) (outline_is h s i) ∙ with_more_is s.assumed (handed_on s (assumption_of i))) ∙ sym (append_assoc before s.assumed (handed_on s (assumption_of i)))

one_more : (before : List (ℕ × Captured)) (all : List Instr) (i : Instr) (is : List Instr) (w v : Work) (x y : Shared) (p q : Whole) → bytes_of all < 2 ^ 32
    → GoesOn (home_in w.home) before all (i ∷ is) w x p → Steps i w v x y p q → GoesOn (home_in w.home) before all is v y q
one_more before all i is w v x y p q short g t =
    let h = home_in w.home in
    let s = g.0 in
    let l = kept_in x in
    let k = kept_in y in
    let r = t.passed.runs in
    let u = t.passed.type in
    let b = t.passed.value in
    let a = g.2 in
    let known : Knows l w h s = knows_now l w h s all (i ∷ is) a g.8 g.10 in
    let f = t.kept h s known in
    let clean = t.clean in
    let count : s.place + (length_of i + bytes_of is) ≡ bytes_of all = g.3 in
    let place : (behind h s i).place ≡ s.place + length_of i = ap (λ (o : Outline). o.place) (outline_is h s i) in
    let small : s.place + length_of i < 2 ^ 33 = omega (arith, short, count) in
    let fine = same_broken l k s w x.named p all i is t.grow a g.6 short (omega (arith, small)) g.5 g.4 ∙ first_none (told w k.lists (was_named x.named) p (breaks_type h s i) (breaks_head h s i) i) f in
    let past : nat_eq (behind h s i).place 0 ≡ false = ap (λ n. nat_eq n 0) place ∙ first_passes s.place (length_of i) (some_bytes i) in
    let unset = f.0.0.1 in
    let may : MayRun w i =
    record {
      low = or_false_right p.register (reaches_past w.home.record.now.types w.home.record.now.registers i) f.0.0.0;
      fresh = f.0.0.2;
      nested = or_false_right p.block (breaks_blocks w i) f.5;
    } in
    let nest = nests l s i w a may.nested in
    let order : breaks_order s i ≡ false = sym (same_order s i) ∙ sym (λ j. is_out_of_order (a.body_is j) (a.types_are j) (a.arguments_are j) i) ∙ or_false_right p.order (is_out_of_order w.in_body (length w.head.types.items) w.head.arguments i) f.3 in
    let own = own_there h.self g.6.run i is (sym g.6.all_is ∙ g.6.parts) in
    let few = a.few_arguments in
    let few_instructions = a.few_instructions in
    let few_now : w.head.arguments + 1 < 2 ^ 64 = omega (arith, few, a.arguments_are, small) in
    let low = g.4.head_low (or_false_left p.head (breaks_head h s i) f.4) in
    let not_again = or_false_right (list_any (was_set w.types) (type_set i)) (list_any (was_set w.terms) (term_set i)) f.0.0.2 in
    let again : (n : ℕ) → IsStill n s → member n (term_set i) ≡ false = λ n z. not_set (was_set w.terms) (term_set i) n not_again (a.terms_set n ∙ z.0) in
    let follows : FollowsHead h s i (behind h s i) =
    record {
      types = ap (λ (o : Outline). o.taken) (outline_is h s i);
      arguments = ap (λ (o : Outline). o.arguments) (outline_is h s i);
      register = λ n e. let z = g.9 n e (low n e) in held_still h s i n nest z (again n z);
    } in
    let typed = t.passed.typed h s few_now known unset order own in
    let head = typed.head (behind h s i) follows in
    let made : SameTerm k b (term_made h s i) = t.passed.puts h s known unset in
    let named = or_false_right p.clause (names_badly h.number h.records h.self.program (was_named x.named) i) f.6 in
    let handed = hands_on l h.records h.number h.self.program w.types w.terms s (before ++ s.assumed) x.handed.items y.handed.items x.named y.named known.types known.terms i g.7 t.fits named unset t.passed.names t.passed.hands in (
      behind h s i,
      g.1 ∙ ap (λ o. unless_broken o s.place (run_on (λ t. run h any_clause t is) (after h any_clause s i))) fine ∙ ap (run_on (λ t. run h any_clause t is)) (comes_behind h s i),
      moved l k h s i u b w v a may r t.grow typed.type made small,
      omega (arith, place, count),
      record {
        register_is = clean.0 ∙ sym (ap (λ t. t && broken_by_record h (behind h s i) rule.Register) past);
        constant_is = clean.1 ∙ sym (ap (λ t. t && broken_by_record h (behind h s i) rule.Constant) past);
        order_is = clean.2 ∙ sym (ap (λ t. t && broken_by_record h (behind h s i) rule.Order) past);
        head_low = λ e. low;
        head_is = clean.6 ∙ sym (ap (λ t. t && broken_by_record h (behind h s i) rule.Head) past);
        block_is = clean.3 ∙ sym (ap (λ t. t && broken_by_record h (behind h s i) rule.Block) past);
        clause_is = clean.4 ∙ sym (ap (λ t. t && broken_by_record h (behind h s i) rule.Clause) past);
        key_is = clean.5 ∙ sym (ap (λ t. t && broken_by_record h (behind h s i) rule.Key) past);
      },
      named_on h s i x.named y.named g.5 (named_has (names_of i) (length x.handed.items) x.named y.named t.passed.names),
      run_on_past l h all i is s u b w v g.6 a r small,
      handed_later l k h.records y.handed.items y.named (before ++ (behind h s i).assumed) t.grow (subst (AreHanded l h.records y.handed.items y.named) (sym (handed_behind h s i before)) handed),
      record {
        number = ap (λ z. z.number) r.home_stays;
        constants = record {
          tables = g.8.constants.tables ∙ ap (λ z. tables_in z.tables.now) (sym r.home_stays);
          language = subst (λ z. HasLanguage z.tables.now) (sym r.home_stays) g.8.constants.language;
          basics = basics_stay x.types y.types t.grow.1 g.8.constants.basics;
          uses = head.0;
        };
        own = subst (HasOwnTypes h.self) (sym r.own_stay) g.8.own;
        head = head.1;
      },
      λ n e z. let still = g.9 n e z in stays_still h s i n nest still (again n still),
      (
        subst (λ m. AreFirstTaken 0 (before_neck all) m.first) (sym r.takings_stay) g.10.0,
        λ body. takes_on l s i is all w v a g.6 may short (omega (arith, short, count)) unset order g.10.1 (r.number_moves (omega (arith, few_instructions, small))) body,
      ),
      low_behind h s i nest g.11,
      subst HandedLow (sym (handed_behind h s i before)) (low_handed h s (was_named x.named) i (before ++ s.assumed) g.12 g.11.0 named),
    )

-- the offset and the number of the next instruction are small
pub stands_low : (h : Home) (before : List (ℕ × Captured)) (all : List Instr) (i : Instr) (is : List Instr) (w : Work) (x : Shared) (p : Whole) → bytes_of all < 2 ^ 32 → GoesOn h before all (i ∷ is) w x p → (w.place < 2 ^ 63) × (w.number < 2 ^ 63)
stands_low h before all i is w x p short g =
    let at = g.2.place_is in
    let few = g.2.few_instructions in
    let count : g.0.place + (length_of i + bytes_of is) ≡ bytes_of all = g.3 in
    (omega (arith, short, count, at), omega (arith, short, count, few))

pub goes_on : (h : Home) (before : List (ℕ × Captured)) (all : List Instr) (i : Instr) (is : List Instr) (w v : Work) (x y : Shared) (p q : Whole) → home_in w.home ≡ h → bytes_of all < 2 ^ 32 → GoesOn h before all (i ∷ is) w x p → Steps i w v x y p q → GoesOn h before all is v y q
goes_on h before all i is w v x y p q e short = subst (λ h. GoesOn h before all (i ∷ is) w x p → Steps i w v x y p q → GoesOn h before all is v y q) e (one_more before all i is w v x y p q short)

refused_at : (before : List (ℕ × Captured)) (all : List Instr) (i : Instr) (is : List Instr) (w : Work) (x y : Shared) (p : Whole) (r : Rule) → bytes_of all < 2 ^ 32 → GoesOn (home_in w.home) before all (i ∷ is) w x p → StoreGrows (kept_in x) (kept_in y)
    → TellsFirst i w x y p (Some r) → IsRan (home_in w.home).tables (home_in w.home).records y before (run (home_in w.home) any_clause (first_state (home_in w.home).self (captured_of before (home_in w.home).number)) all) (Some (w.place, r))
refused_at before all i is w x y p r short g grow first =
    let h = home_in w.home in
    let s = g.0 in
    let f = first h s (knows_now (kept_in x) w h s all (i ∷ is) g.2 g.8 g.10) in
    let count : s.place + (length_of i + bytes_of is) ≡ bytes_of all = g.3 in
    let at : w.place ≡ s.place = g.2.place_is in
    let found = same_broken (kept_in x) (kept_in y) s w x.named p all i is grow g.2 g.6 short (omega (arith, short, count)) g.5 g.4 ∙ first_some (told w y.lists (was_named x.named) p (breaks_type h s i) (breaks_head h s i) i) r f in
    (g.1 ∙ ap (λ o. unless_broken o s.place (run_on (λ t. run h any_clause t is) (after h any_clause s i))) found ∙ ap (λ n. Broken n r) (sym at), omega (arith, short, count, at))

pub refused : (h : Home) (before : List (ℕ × Captured)) (all : List Instr) (i : Instr) (is : List Instr) (w : Work) (x y : Shared) (p : Whole) (r : Rule) → home_in w.home ≡ h → bytes_of all < 2 ^ 32 → GoesOn h before all (i ∷ is) w x p → StoreGrows (kept_in x) (kept_in y)
    → TellsFirst i w x y p (Some r) → IsRan h.tables h.records y before (run h any_clause (first_state h.self (captured_of before h.number)) all) (Some (w.place, r))
refused h before all i is w x y p r e short =
    subst (λ h. GoesOn h before all (i ∷ is) w x p → StoreGrows (kept_in x) (kept_in y) → TellsFirst i w x y p (Some r) → IsRan h.tables h.records y before (run h any_clause (first_state h.self (captured_of before h.number)) all) (Some (w.place, r))) e
    (refused_at before all i is w x y p r short)

-- the end of the instructions, where the record is judged as a whole if there was none
abbrev pub at_end : Option Rule → ℕ → Option (ℕ × Rule)
at_end None n = None
at_end (Some r) n = Some (n, r)

whole_at : (z : Bool) (f : Rule → Bool) → (if z then first_broken f rules else None) ≡ first_broken (λ r. z && f r) rules
whole_at true f = refl
whole_at false f = refl

none_there : (z : Bool) → false ≡ (z && false)
none_there true = refl
none_there false = refl

whole_broken : (h : Home) (s : State) (x : Whole) → IsWhole h s x → broken_of rules h s [] ≡ first_broken (breaks (broken_whole x)) rules
whole_broken h s x b =
    let t : Bool = nat_eq s.place 0 in
    whole_at t (broken_by_record h s) ∙ sym (first_same (breaks (broken_whole x)) (λ r. t && broken_by_record h s r) b.register_is (none_there t) (none_there t) b.constant_is (none_there t) (none_there t) (none_there t) b.order_is b.head_is b.block_is b.clause_is b.key_is)

pub ended : (h : Home) (before : List (ℕ × Captured)) (all : List Instr) (w : Work) (x : Shared) (p : Whole) (o : Option Rule) → bytes_of all < 2 ^ 32
    → GoesOn h before all [] w x p → IsFirst (broken_whole p) o → IsRan h.tables h.records x before (run h any_clause (first_state h.self (captured_of before h.number)) all) (at_end o w.place)
ended h before all w x p None short g f = (g.0, g.1 ∙ ap (λ o. unless_broken o g.0.place (Done g.0)) (whole_broken h g.0 p g.4 ∙ first_none (broken_whole p) f), g.7, (g.8.constants.basics, g.8.constants.uses), g.12)
ended h before all w x p (Some r) short g f =
    let s = g.0 in
    let at : w.place ≡ s.place = g.2.place_is in
    let count : s.place + 0 ≡ bytes_of all = g.3 in
    (g.1 ∙ ap (λ o. unless_broken o s.place (Done s)) (whole_broken h s p g.4 ∙ first_some (broken_whole p) r f) ∙ ap (λ n. Broken n r) (sym at), omega (arith, short, count, at))

pub handed_kept : (l : Store) (x y : Shared) (all : List Record) (before : List (ℕ × Captured)) → y.handed ≡ x.handed → y.named ≡ x.named → AreHanded l all x.handed.items x.named before → AreHanded l all y.handed.items y.named before
handed_kept l x y all before b c h = subst (λ v. AreHanded l all v.items y.named before) (sym b) (subst (λ m. AreHanded l all x.handed.items m before) (sym c) h)

started_badly : (program : Bool) (wrong : Bool) (a b : Bool) → a ≡ b → (if program then wrong else not a) ≡ (if program then wrong else not b)
started_badly p w a b e = ap (λ a. if p then w else not a) e

judged_first : (h : Home) (s : State) (m : BTreeMap ℕ ℕ) (x : Whole) → s.place ≡ 0 → AreNamedBefore h.number h.records m → IsJudgedWhole h (was_named m) x → x.head ≡ broken_by_record h s rule.Head → IsWhole h s x
judged_first h s m x e names j head = record {
  head_is = head ∙ ap (λ p. nat_eq p 0 && broken_by_record h s rule.Head) (sym e);
  register_is = j.register_is ∙ ap (λ p. nat_eq p 0 && broken_by_record h s rule.Register) (sym e);
  constant_is = j.constant_is ∙ ap (λ p. nat_eq p 0 && broken_by_record h s rule.Constant) (sym e);
  order_is = j.order_is ∙ ap (λ p. nat_eq p 0 && broken_by_record h s rule.Order) (sym e);
  block_is = j.block_is ∙ ap (λ p. nat_eq p 0 && broken_by_record h s rule.Block) (sym e);
  clause_is = j.clause_is ∙ started_badly h.self.program (not (nat_eq (h.self.captured_types + h.self.captured) 0)) (was_named m h.number) (member h.number (named_before h.number h.records)) (names h.number) ∙ ap (λ p. nat_eq p 0 && broken_by_record h s rule.Clause) (sym e);
  key_is = j.key_is ∙ ap (λ p. nat_eq p 0 && broken_by_record h s rule.Key) (sym e);
  head_low = j.head_low;
}

-- what is told of a record before its first instruction, of the registers as they were kept before it
abbrev pub KnowsFirst : Store → (x : Shared) → Work → Home → Type 0
KnowsFirst l x w h = (s : State) → s.head_types ≡ [] → s.head_arguments ≡ [] → IsSame (SameTerm l) w.terms s.now.terms → KnowsHead (kept_in x) w h s

-- whether the head is a predicate that clauses may have
abbrev pub JudgesHead : Shared → Work → Whole → Type 0
JudgesHead x w p = (s : State) → IsSame (SameTerm (kept_in x)) w.terms s.now.terms → HoldsLow w.home.number s.now.terms → p.head ≡ broken_by_record (home_in w.home) s rule.Head

begins : (l : Store) (before : List (ℕ × Captured)) (w : Work) (x : Shared) (p : Whole) → StoreGrows l (kept_in x) → slice_get w.home.records.now w.home.number ≡ Some w.home.record.now → AreHanded l w.home.records.now x.handed.items x.named before → IsStarted x.handed.items x.named w
    → KnowsFirst l x w (home_in w.home) → AreNamedBefore w.home.number w.home.records.now x.named → IsJudgedWhole (home_in w.home) (was_named x.named) p → JudgesHead x w p → HandedLow before → GoesOn (home_in w.home) before w.home.record.now.code.items w.home.record.now.code.items w x p
begins l before w x p grow there first b knows names j judges low =
    let hs = x.handed.items in
    let m = x.named in
    let r = w.home.record.now in
    let c = captured_of before w.home.number in
    let k = captured_in hs m w.home.number in
    let n = kept_in x in
    let starts : HoldsLow w.home.number (first_state r c).now.terms = low_start w.home.number r c (low w.home.number) in
    let given : HandedIn x w.home.records.now before = handed_later l n w.home.records.now hs m before grow first in
    let few = few_captured n w.home.records.now hs m before w.home.number r given there in
    let types = stack_begins (SameType n) r.captured_types r.types w.types (types_captured k) c.types (b.types_filled few.few_types) b.types_set few.types (started_length c.types r.types) (given.types_alike w.home.number) in
    let terms = stack_begins (SameTerm n) r.captured r.registers w.terms (terms_captured k) c.terms (b.terms_filled few.few_terms) b.terms_set few.terms (started_length c.terms r.registers) (given.terms_alike w.home.number) in
    let terms_first = stack_begins (SameTerm l) r.captured r.registers w.terms (terms_captured k) c.terms (b.terms_filled few.few_terms) b.terms_set few.terms (started_length c.terms r.registers) (first.terms_alike w.home.number) in (
      first_state r c,
      refl,
      record {
        place_is = b.place_is;
        body_is = b.body_is;
        types_are = b.types_are;
        arguments_are = b.arguments_are;
        types_set = λ n. b.types_set n ∙ sym (from_zero_has n r.captured_types);
        terms_set = λ n. b.terms_set n ∙ sym (from_zero_has n r.captured);
        types_stand = subst (λ fs. IsStack (SameType n) r.types w.types (type_heights (reverse fs)) (started c.types r.types ∷ [])) (sym b.frames_are) types;
        terms_stand = subst (λ fs. IsStack (SameTerm n) r.registers w.terms (term_heights (reverse fs)) (started c.terms r.registers ∷ [])) (sym b.frames_are) terms;
        few_arguments = omega arith;
        few_instructions = let n = b.number_is in omega (arith, n);
        sides_are = ap sides_in b.frames_are;
        ends_are = subst (λ fs. AreEnds (reverse fs)) (sym b.frames_are) tt;
      },
      omega arith,
      judged_first (home_in w.home) (first_state r c) m p refl names j (judges (first_state r c) (λ q. same_values (SameTerm n) r.registers w.terms [] (started c.terms r.registers) [] terms q) starts),
      λ n. names n ∙ ap (member n) (append_nil_sym (named_before w.home.number w.home.records.now)),
      record { run = []; parts = refl; length_is = refl; all_is = refl; count_is = let n = b.number_is in omega (arith, n); places_are = b.places_are },
      subst (HandedIn x w.home.records.now) (append_nil_sym before) given,
      knows (first_state r c) refl refl (λ n. same_values (SameTerm l) r.registers w.terms [] (started c.terms r.registers) [] terms_first n),
      λ n e low. (from_zero_has n r.captured ∙ low, (refl, tt)),
      (b.takings_are, λ body. subst (λ q. TakenIn (home_in w.home) r.code.items r.code.items q (first_state r c)) (sym b.number_is) (taken_first (home_in w.home) r c r.code.items starts)),
      (held_later w.home.number (suc w.home.number) (first_state r c).now.terms (omega arith) starts, tt),
      subst HandedLow (append_nil_sym before) low,
    )

pub begun : (h : Home) (l : Store) (before : List (ℕ × Captured)) (w : Work) (x : Shared) (p : Whole) → home_in w.home ≡ h → StoreGrows l (kept_in x) → IsStarted x.handed.items x.named w → slice_get h.records h.number ≡ Some h.self → AreHanded l h.records x.handed.items x.named before
    → KnowsFirst l x w h → AreNamedBefore h.number h.records x.named → IsJudgedWhole h (was_named x.named) p → JudgesHead x w p → HandedLow before → GoesOn h before h.self.code.items h.self.code.items w x p
begun h l before w x p e grow b =
    subst (λ h. slice_get h.records h.number ≡ Some h.self → AreHanded l h.records x.handed.items x.named before → KnowsFirst l x w h → AreNamedBefore
    h.number h.records x.named → IsJudgedWhole h (was_named x.named) p → JudgesHead x w p → HandedLow before → GoesOn h before h.self.code.items
    h.self.code.items w x p) e
    (λ there given knows names j judges low. begins l before w x p grow there given b knows names j judges low)
