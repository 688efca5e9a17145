-- What the functions of a body's code use.
use Rattle.std.proofs.Common.{◌≡◌, ◌∙◌, ◌⊎◌, inl, inr, ℕ, zero, suc, ◌+◌, ◌*◌, ◌<◌, ◌≤◌, List, [], ◌∷◌, ◌++◌, append_assoc, map, take, length, Option, Some, None, true, if◌then◌else◌, ap, refl, sym, subst, arith}
use Rattle.std.specs.Prelude.{sum_by, slice_get, MatchOption, IfSome}
use Rattle.std.proofs.lemmas.Bool.{lt-ltb}
use Rattle.std.proofs.lemmas.List.{append-nil, length-append, reverse-append}
use Rattle.lp_calculus.specs.Types.{Ty}
use Rattle.lp_term.specs.Nodes.{Nodes, tree, type_tree}
use Rattle.lp_term.specs.declared.node.TermId.{TermId}
use Rattle.lp_term.specs.declared.node.TypeId.{TypeId}
use Rattle.lp_code.specs.declared.instruction.Instr.{Instr}
use Rattle.lp_code.specs.declared.instruction.Instr.TheVariants as instr
use Rattle.lp_code.specs.Length.{length_of}
use Rattle.lp_gen.specs.declared.emitter.Emitter.{Emitter}
use Rattle.lp_gen.specs.declared.environment.Environment.{Environment}
use Rattle.lp_gen.specs.declared.body.Block.{Block}
use Rattle.lp_gen.specs.declared.fault.RecordRefusal.{RecordRefusal}
use Rattle.lp_gen.specs.declared.fault.RecordRefusal.TheVariants as refusal
use Rattle.lp_gen.specs.declared.plan.Assumption.{Assumption}
use Rattle.lp_gen.specs.declared.plan.Step.{Step}
use Rattle.lp_gen.specs.declared.plan.Step.TheVariants as on
use Rattle.lp_gen.specs.Steps.{Seen, Around, at_level}
use Rattle.lp_gen.specs.Registers.{Amount, nothing, both, plain_code, term_code, type_takes, variable_takes, with_variable, assume_takes, past}
use Rattle.lp_gen.specs.inner.Alike.{SameSeen, AllSame, IsAlike}
use Rattle.lp_gen.specs.inner.Fitting.{misfits_of, IsRefused}
use Rattle.lp_gen.specs.inner.Listing.{seen, around_of}
use Rattle.lp_gen.specs.inner.TermLaw.{AreSet}
use Rattle.lp_gen.specs.inner.Doing.{AtomWritten}
use Rattle.lp_gen.specs.inner.Bodies.{pushed}
use Rattle.lp_gen.specs.inner.GoalCode.{quantified}
use Rattle.lp_gen.specs.inner.OpenGoals.{cut_to, turn, end_either}
use Rattle.lp_gen.specs.inner.BodyCode.{level_found, levels_found, AssumedBy, SomeOpened, AllOpened, BlockOpened, BlockEnded, Takes}
use Rattle.lp_gen.specs.inner.Using.{Uses, Lacks, for_terms, for_misfits, room, memory, AtMost}
use Rattle.lp_gen.specs.inner.BodyUsing.{instr_takes, assumption_takes, block_step_takes, around_left, blocks_left, around_behind, blocks_behind, block_steps_take, block_counts, IsStepped, HasUsed, IsPatched}
use Rattle.lp_gen.proofs.Using.{uses_nothing, uses_both, uses_same, same_amount, lacks_behind, lacks_then, lacks_in, plain_said, no_plain_code}
use Rattle.lp_gen.proofs.Alike.{alike_at, same_length, same_joined, atom_goal_same, with_variable_same, itself_same}
use Rattle.lp_gen.proofs.TypeWorks.{map_length}
use Rattle.lp_gen.proofs.BodySteps.{cut_set, push_set, turn_step, end_either_step}
use Rattle.lp_gen.proofs.BodyFacts.{no_turn, no_right, mark_is}

-- an emitter that is changed in what is not counted
pub uses_kept : {o m n : Emitter} {a : Amount} → Uses o m a → n.types ≡ m.types → n.registers ≡ m.registers → n.place ≡ m.place → Uses o n a
uses_kept {o} {m} {n} {a} x t r p = record { types_are = t ∙ x.types_are; terms_are = r ∙ x.terms_are; bytes_are = p ∙ x.bytes_are; fits = x.fits }

-- an instruction that sets no register

pub instr_uses : {m n : Emitter} (i : Instr) → n.types ≡ m.types → n.registers ≡ m.registers → n.place ≡ m.place + length_of i → misfits_of i ≡ 0 → Uses m n (instr_takes i)
instr_uses i t r p z = plain_said i (length_of i) (misfits_of i) t r p z refl refl

pub instr_lacks : (m : Emitter) (i : Instr) (e : RecordRefusal) → IsRefused ((4294967295 < m.place + length_of i) ⊎ (0 < misfits_of i)) e → Lacks m (instr_takes i) e
instr_lacks m i e p = no_plain_code m i (length_of i) (misfits_of i) e refl refl p

-- a variable with its type

pub opened_uses : {o m k : Emitter} (T : Ty) → Uses o m (type_takes T) → k.types ≡ m.types → k.registers ≡ m.registers + 1 → k.place ≡ m.place → Uses o k (both (type_takes T) (term_code 0 0))
opened_uses T x t r p = uses_both x (record { types_are = omega (arith, t); terms_are = omega (arith, r); bytes_are = omega (arith, p); fits = refl })

pub no_register : (o m : Emitter) (T : Ty) (e : RecordRefusal) → Uses o m (type_takes T) → IsRefused (65535 < m.registers + 1) e → Lacks o (both (type_takes T) (term_code 0 0)) e
no_register o m T refusal.Registers x p = lacks_then x (room refl (for_terms (omega (arith, p))))
no_register o m T refusal.Memory x p = memory refl

pub variable_uses : {o m n : Emitter} (T : Ty) (i : Instr) → length_of i ≡ 5 → Uses o m (both (type_takes T) (term_code 0 0)) → n.types ≡ m.types → n.registers ≡ m.registers → n.place ≡ m.place + length_of i →
    Uses o n (variable_takes T)
variable_uses {o} {m} {n} T i five x t r p =
    let a = x.types_are in
    let b = x.terms_are in
    let c = x.bytes_are in
    let d = x.fits in
    record { types_are = omega (arith, a, t); terms_are = omega (arith, b, r); bytes_are = omega (arith, c, p, five); fits = omega (arith, d) }

variable_most : (T : Ty) → AtMost (both (both (type_takes T) (term_code 0 0)) (plain_code 5 0)) (variable_takes T)
variable_most T = record { types = omega arith; terms = omega arith; bytes = omega arith; misfits = omega arith }

pub no_variable : (o m : Emitter) (T : Ty) (i : Instr) (e : RecordRefusal) → length_of i ≡ 5 → misfits_of i ≡ 0 → Uses o m (both (type_takes T) (term_code 0 0)) →
    IsRefused ((4294967295 < m.place + length_of i) ⊎ (0 < misfits_of i)) e → Lacks o (variable_takes T) e
no_variable o m T i e five fits x p = lacks_behind (variable_takes T) x (variable_most T) (no_plain_code m i 5 0 e five fits p)

pub not_opened : (o : Emitter) (T : Ty) (e : RecordRefusal) → Lacks o (both (type_takes T) (term_code 0 0)) e → Lacks o (variable_takes T) e
not_opened o T e p = lacks_in (variable_takes T) (record { types = omega arith; terms = omega arith; bytes = omega arith; misfits = omega arith }) p

-- blocks

pub counts_more : (bs : List Block) (l : Block) → block_counts (bs ++ l ∷ []) ≡ l.variables ∷ block_counts bs
counts_more bs l = ap (map (λ (l : Block). l.variables)) (reverse-append bs (l ∷ []))

pub block_gone : (bs bs' : List Block) (l : Block) (a a' : Around) → bs ≡ bs' ++ l ∷ [] → a' ≡ cut_to l.variables a → a' ≡ around_left (block_counts bs) a
block_gone bs bs' l a a' e f = f ∙ sym (ap (λ ms. around_left ms a) (ap block_counts e ∙ counts_more bs' l))

pub counts_gone : (bs bs' : List Block) (l : Block) → bs ≡ bs' ++ l ∷ [] → block_counts bs' ≡ blocks_left (block_counts bs)
counts_gone bs bs' l e = sym (ap blocks_left (ap block_counts e ∙ counts_more bs' l))

pub none_gone : (bs : List Block) (a : Around) → bs ≡ [] → a ≡ around_left (block_counts bs) a
none_gone bs a e = sym (ap (λ l. around_left (block_counts l) a) e)

pub no_counts : (bs bs' : List Block) → bs ≡ [] → bs' ≡ [] → block_counts bs' ≡ blocks_left (block_counts bs)
no_counts bs bs' e f = ap block_counts f ∙ sym (ap (λ l. blocks_left (block_counts l)) e)

pub ended_by : (e e' : Emitter) (env env' : Environment) (bs bs' : List Block) (i : Instr) (o : Option Block) → MatchOption o (bs ≡ []) (λ l. bs ≡ bs' ++ l ∷ []) →
    IfSome o (λ l. (b : Nodes) → around_of b env' ≡ cut_to l.variables (around_of b env)) → e'.code.items ≡ e.code.items ++ i ∷ [] → e'.types ≡ e.types → e'.registers ≡ e.registers →
    BlockEnded e e' env env' bs bs' i
ended_by e e' env env' bs bs' i None none left c t r = inl none
ended_by e e' env env' bs bs' i (Some l) is left c t r = inr (l, is, left, c, t, r)

pub turned_by : (e e1 e2 : Emitter) (env env' : Environment) (bs bs1 bs2 : List Block) (o : Option Block) (right : Block) → MatchOption o (bs ≡ []) (λ l. bs ≡ bs1 ++ l ∷ []) →
    IfSome o (λ l. (b : Nodes) → around_of b env' ≡ cut_to l.variables (around_of b env)) → right.variables ≡ length env'.own.items → right.at ≡ length e.code.items →
    right.from ≡ sum_by length_of e.code.items → e1.code.items ≡ e.code.items ++ instr.Jump 0 ∷ [] → e1.types ≡ e.types → e1.registers ≡ e.registers → IfSome o (IsPatched e1 e2) → e2.types ≡ e1.types →
    e2.registers ≡ e1.registers → bs2 ≡ bs1 ++ right ∷ [] → Takes e e2 env env' bs bs2 turn
turned_by e e1 e2 env env' bs bs1 bs2 None right none left rv ra rf c t r patched t2 r2 more = no_turn e e2 env env' bs bs2 none
turned_by e e1 e2 env env' bs bs1 bs2 (Some l) right is left rv ra rf c t r patched t2 r2 more = λ u cl b K.
    turn_step (AssumedBy u cl) K e e1 e2 (around_of b env) (around_of b env') bs bs1 bs2 l right patched.bytes is (left b) (mark_is b env' right _ _ rv ra rf) c t r patched.counted patched.either t2 r2 more

pub right_ended_by : (e e' : Emitter) (env env' : Environment) (bs bs' : List Block) (o : Option Block) → MatchOption o (bs ≡ []) (λ l. bs ≡ bs' ++ l ∷ []) →
    IfSome o (λ l. (b : Nodes) → around_of b env' ≡ cut_to l.variables (around_of b env)) → IfSome o (IsPatched e e') → e'.types ≡ e.types → e'.registers ≡ e.registers → Takes e e' env env' bs bs' end_either
right_ended_by e e' env env' bs bs' None none left patched t r = no_right e e' env env' bs bs' none
right_ended_by e e' env env' bs bs' (Some l) is left patched t r = λ u cl b K.
    end_either_step (AssumedBy u cl) K e e' (around_of b env) (around_of b env') bs bs' l patched.bytes is (left b) patched.counted patched.jump t r

pub turned_counts : (b : Nodes) (env env' : Environment) (bs bs1 bs2 : List Block) (right : Block) → around_of b env' ≡ around_left (block_counts bs) (around_of b env) →
    block_counts bs1 ≡ blocks_left (block_counts bs) → right.variables ≡ length env'.own.items → bs2 ≡ bs1 ++ right ∷ [] →
    block_counts bs2 ≡ length (around_left (block_counts bs) (around_of b env)).own ∷ blocks_left (block_counts bs)
turned_counts b env env' bs bs1 bs2 right around counts many more =
    ap block_counts more ∙ counts_more bs1 right
    ∙ (λ i. (many ∙ sym (map_length (seen b) env'.own.items) ∙ ap (λ (a : Around). length a.own) around) i ∷ counts i)

-- an assumption

pub assumption_size : (v k n p q r : ℕ) → p ≡ v → q ≡ k → r ≡ n →
    plain_code (7 + 2 * p + 2 * q + 4 * r) (past 65535 p + past 65535 q) ≡ plain_code (7 + 2 * v + 2 * k + 4 * n) (past 65535 v + past 65535 k)
assumption_size v k n p q r e f g = λ i. plain_code (7 + 2 * e i + 2 * f i + 4 * g i) (past 65535 (e i) + past 65535 (f i))

past_one : (k : ℕ) → 65535 < k → past 65535 k ≡ 1
past_one k p = ap (λ t. if t then 1 else 0) (lt-ltb 65535 k p)

pub many_misfit : (v k : ℕ) (e : RecordRefusal) → IsRefused (65535 < k) e → IsRefused (0 < past 65535 v + past 65535 k) e
many_misfit v k refusal.Registers p = let z = past_one k p in omega (arith, z)
many_misfit v k refusal.Memory p = tt

pub no_assumption_code : (m : Emitter) (a : Amount) (e : RecordRefusal) → IsRefused (0 < a.misfits) e → Lacks m a e
no_assumption_code m a refusal.Registers p = room refl (for_misfits p)
no_assumption_code m a refusal.Memory p = memory refl

-- what stands around, but for registers

same_itself : (o : Option Seen) → SameSeen o o
same_itself None = tt
same_itself (Some v) = (refl, refl)

pub alike_itself : (a b : Around) → a ≡ b → IsAlike a b
alike_itself a b e = subst (IsAlike a) e (record { base = refl; own = itself_same a.own; captured = λ l. same_itself (a.captured l) })

alike_pushed : (a : Around) (r : ℕ) (T : Ty) → IsAlike (pushed a (quantified r T)) (with_variable a T)
alike_pushed a r T = record {
  base = refl;
  own = same_joined a.own a.own (quantified r T ∷ []) (record { register = 0; of = T; is_set = true } ∷ []) (itself_same a.own) ((refl, refl), tt);
  captured = λ l. same_itself (a.captured l);
}

same_on : (o p q : Option Seen) → SameSeen o p → SameSeen p q → SameSeen o q
same_on None None q s t = t
same_on None (Some w) q s t = absurd s
same_on (Some v) None q s t = absurd s
same_on (Some v) (Some w) None s t = absurd t
same_on (Some v) (Some w) (Some u) s t = (s.0 ∙ t.0, s.1 ∙ t.1)

all_on : (vs ws us : List Seen) → AllSame vs ws → AllSame ws us → AllSame vs us
all_on [] [] us s t = t
all_on [] (w ∷ ws) us s t = absurd s
all_on (v ∷ vs) [] us s t = absurd s
all_on (v ∷ vs) (w ∷ ws) [] s t = absurd t
all_on (v ∷ vs) (w ∷ ws) (u ∷ us) s t = ((s.0.0 ∙ t.0.0, s.0.1 ∙ t.0.1), all_on vs ws us s.1 t.1)

pub alike_on : (a b c : Around) → IsAlike a b → IsAlike b c → IsAlike a c
alike_on a b c x y = record {
  base = x.base ∙ y.base;
  own = all_on a.own b.own c.own x.own y.own;
  captured = λ l. same_on (a.captured l) (b.captured l) (c.captured l) (x.captured l) (y.captured l);
}

same_taken : (n : ℕ) (vs ws : List Seen) → AllSame vs ws → AllSame (take n vs) (take n ws)
same_taken zero vs ws s = tt
same_taken (suc n) [] [] s = tt
same_taken (suc n) [] (w ∷ ws) s = absurd s
same_taken (suc n) (v ∷ vs) [] s = absurd s
same_taken (suc n) (v ∷ vs) (w ∷ ws) s = (s.0, same_taken n vs ws s.1)

left_alike : (ms : List ℕ) (a b : Around) → IsAlike a b → IsAlike (around_left ms a) (around_left ms b)
left_alike [] a b x = x
left_alike (m ∷ ms) a b x = record { base = x.base; own = same_taken m a.own b.own x.own; captured = x.captured }

one_found : (o p : Option Seen) (l : ℕ) (ks ls : List ℕ) → SameSeen o p → length ks ≡ length ls → length (level_found o l ++ ks) ≡ length (level_found p l ++ ls)
one_found None None l ks ls s e = e
one_found None (Some w) l ks ls s e = absurd s
one_found (Some v) None l ks ls s e = absurd s
one_found (Some v) (Some w) l ks ls s e = ap suc e

pub found_alike : (a b : Around) (ls : List ℕ) → IsAlike a b → length (levels_found a ls) ≡ length (levels_found b ls)
found_alike a b [] x = refl
found_alike a b (l ∷ ls) x = one_found (at_level a l) (at_level b l) l (levels_found a ls) (levels_found b ls) (alike_at a b l x) (found_alike a b ls x)

module _ (n : Nodes) (v : ℕ) (xs : List Assumption) (K : ℕ → List Ty → Ty) where
  assumption_same : (a b : Around) (o : Option Assumption) → IsAlike a b → assumption_takes v a o ≡ assumption_takes v b o
  assumption_same a b None x = refl
  assumption_same a b (Some y) x = ap (λ k. assume_takes v k y.count) (found_alike a b y.captured.keys x)

  pub step_same : (a b : Around) (s : Step) → IsAlike a b → block_step_takes n v xs K a s ≡ block_step_takes n v xs K b s
  step_same a b (on.Atom t) x = atom_goal_same K a b (tree n t.0) x
  step_same a b on.Cut x = refl
  step_same a b on.Either x = refl
  step_same a b on.Turn x = refl
  step_same a b on.EndEither x = refl
  step_same a b (on.Some T) x = refl
  step_same a b (on.All T) x = refl
  step_same a b on.EndAll x = refl
  step_same a b (on.Assume k) x = assumption_same a b (slice_get xs k) x
  step_same a b on.EndAssume x = refl
  step_same a b on.Not x = refl
  step_same a b on.EndNot x = refl

  behind_alike : (ms : List ℕ) (a b : Around) (s : Step) → IsAlike a b → IsAlike (around_behind n ms a s) (around_behind n ms b s)
  behind_alike ms a b (on.Atom t) x = x
  behind_alike ms a b on.Cut x = x
  behind_alike ms a b on.Either x = x
  behind_alike ms a b on.Turn x = left_alike ms a b x
  behind_alike ms a b on.EndEither x = left_alike ms a b x
  behind_alike ms a b (on.Some T) x = with_variable_same a b (type_tree n T.0) x
  behind_alike ms a b (on.All T) x = with_variable_same a b (type_tree n T.0) x
  behind_alike ms a b on.EndAll x = left_alike ms a b x
  behind_alike ms a b (on.Assume k) x = x
  behind_alike ms a b on.EndAssume x = left_alike ms a b x
  behind_alike ms a b on.Not x = x
  behind_alike ms a b on.EndNot x = left_alike ms a b x

  own_length : (a b : Around) → IsAlike a b → length a.own ≡ length b.own
  own_length a b x = same_length a.own b.own x.own

  blocks_alike : (ms : List ℕ) (a b : Around) (s : Step) → IsAlike a b → blocks_behind ms a s ≡ blocks_behind ms b s
  blocks_alike ms a b (on.Atom t) x = refl
  blocks_alike ms a b on.Cut x = refl
  blocks_alike ms a b on.Either x = ap (λ k. k ∷ ms) (own_length a b x)
  blocks_alike ms a b on.Turn x = ap (λ k. k ∷ blocks_left ms) (own_length (around_left ms a) (around_left ms b) (left_alike ms a b x))
  blocks_alike ms a b on.EndEither x = refl
  blocks_alike ms a b (on.Some T) x = refl
  blocks_alike ms a b (on.All T) x = ap (λ k. k ∷ ms) (own_length a b x)
  blocks_alike ms a b on.EndAll x = refl
  blocks_alike ms a b (on.Assume k) x = ap (λ k. k ∷ ms) (own_length a b x)
  blocks_alike ms a b on.EndAssume x = refl
  blocks_alike ms a b on.Not x = ap (λ k. k ∷ ms) (own_length a b x)
  blocks_alike ms a b on.EndNot x = refl

  -- all are set

  left_set : (ms : List ℕ) (a : Around) → AreSet a → AreSet (around_left ms a)
  left_set [] a x = x
  left_set (m ∷ ms) a x = cut_set m a x

  behind_set : (ms : List ℕ) (a : Around) (s : Step) → AreSet a → AreSet (around_behind n ms a s)
  behind_set ms a (on.Atom t) x = x
  behind_set ms a on.Cut x = x
  behind_set ms a on.Either x = x
  behind_set ms a on.Turn x = left_set ms a x
  behind_set ms a on.EndEither x = left_set ms a x
  behind_set ms a (on.Some T) x = push_set a 0 (type_tree n T.0) x
  behind_set ms a (on.All T) x = push_set a 0 (type_tree n T.0) x
  behind_set ms a on.EndAll x = left_set ms a x
  behind_set ms a (on.Assume k) x = x
  behind_set ms a on.EndAssume x = left_set ms a x
  behind_set ms a on.Not x = x
  behind_set ms a on.EndNot x = left_set ms a x

  alike_set : (a b : Around) → IsAlike a b → AreSet b → AreSet a
  alike_set a b x set l w at = go (at_level b l) refl (subst (λ o. SameSeen o (at_level b l)) at (alike_at a b l x))
    where
      go : (o : Option Seen) → at_level b l ≡ o → SameSeen (Some w) (at_level b l) → w.is_set ≡ true
      go None e s = absurd (subst (SameSeen (Some w)) e s)
      go (Some u) e s = (subst (SameSeen (Some w)) e s).1 ∙ set l u e

  -- the steps

  pub used_begins : (e : Emitter) (env : Environment) (bs : List Block) → bs ≡ [] → AreSet (around_of n env) → HasUsed n v xs K e e (around_of n env) env bs []
  used_begins e env bs none set = record {
    amount = nothing;
    used = uses_nothing e;
    around = around_of n env;
    blocks = [];
    alike = alike_itself (around_of n env) (around_of n env) refl;
    blocks_are = ap block_counts none;
    set = set;
    rest = λ ss. same_amount _ _ (omega arith) (omega arith) (omega arith) (omega arith);
  }

  both_assoc : (a b c : Amount) → both a (both b c) ≡ both (both a b) c
  both_assoc a b c = same_amount _ _ (omega arith) (omega arith) (omega arith) (omega arith)

  pub used_next : (e m e' : Emitter) (a : Around) (env env' : Environment) (bs bs' : List Block) (ss : List Step) (s : Step) → HasUsed n v xs K e m a env bs ss →
      Uses m e' (block_step_takes n v xs K (around_of n env) s) → IsStepped n env env' bs bs' s → HasUsed n v xs K e e' a env' bs' (ss ++ s ∷ [])
  used_next e m e' a env env' bs bs' ss s x u stepped =
      let y = stepped x.set in
      let here = step_same (around_of n env) x.around s x.alike in
      let counts : IsAlike (around_behind n (block_counts bs) (around_of n env) s) (around_behind n x.blocks x.around s) =
      subst (λ ms. IsAlike (around_behind n (block_counts bs) (around_of n env) s) (around_behind n ms x.around s)) x.blocks_are (behind_alike (block_counts bs) (around_of n env) x.around s x.alike) in
      record {
        amount = both x.amount (block_step_takes n v xs K x.around s);
        used = uses_both x.used (uses_same here u);
        around = around_behind n x.blocks x.around s;
        blocks = blocks_behind x.blocks x.around s;
        alike = alike_on (around_of n env') (around_behind n (block_counts bs) (around_of n env) s) (around_behind n x.blocks x.around s) y.0 counts;
        blocks_are = y.1 ∙ blocks_alike (block_counts bs) (around_of n env) x.around s x.alike ∙ ap (λ ms. blocks_behind ms x.around s) x.blocks_are;
        set = alike_set (around_of n env') (around_behind n (block_counts bs) (around_of n env) s) y.0 (behind_set (block_counts bs) (around_of n env) s x.set);
        rest = λ more.
            ap (block_steps_take n v xs K a []) (append_assoc ss (s ∷ []) more) ∙ x.rest (s ∷ more)
            ∙ both_assoc x.amount (block_step_takes n v xs K x.around s) (block_steps_take n v xs K (around_behind n x.blocks x.around s) (blocks_behind x.blocks x.around s) more);
      }

  both_nothing : (a : Amount) → both a nothing ≡ a
  both_nothing a = same_amount _ _ (omega arith) (omega arith) (omega arith) (omega arith)

  pub used_all : (e e' : Emitter) (a : Around) (env : Environment) (bs : List Block) (ss : List Step) → HasUsed n v xs K e e' a env bs ss → Uses e e' (block_steps_take n v xs K a [] ss)
  used_all e e' a env bs ss x =
      uses_same (sym (both_nothing x.amount) ∙ sym (x.rest []) ∙ ap (block_steps_take n v xs K a []) (append-nil ss)) x.used

  pub used_lacks : (e m : Emitter) (a : Around) (env : Environment) (bs : List Block) (ss all : List Step) (s : Step) (r : RecordRefusal) → ((rest : List Step) × (all ≡ ss ++ s ∷ rest)) →
      HasUsed n v xs K e m a env bs ss → Lacks m (block_step_takes n v xs K (around_of n env) s) r → Lacks e (block_steps_take n v xs K a [] all) r
  used_lacks e m a env bs ss all s r part x p =
      let here = step_same (around_of n env) x.around s x.alike in
      let more = block_steps_take n v xs K (around_behind n x.blocks x.around s) (blocks_behind x.blocks x.around s) part.0 in
      subst (λ k. Lacks e k r) (sym (ap (block_steps_take n v xs K a []) part.1 ∙ x.rest (s ∷ part.0)))
      (lacks_behind (both x.amount (both (block_step_takes n v xs K x.around s) more)) x.used
      (record { types = omega arith; terms = omega arith; bytes = omega arith; misfits = omega arith }) (subst (λ k. Lacks m k r) here p))

-- what stands around behind a step

pub stays_stepped : (n : Nodes) (env : Environment) (bs : List Block) (s : Step) → around_behind n (block_counts bs) (around_of n env) s ≡ around_of n env →
    blocks_behind (block_counts bs) (around_of n env) s ≡ block_counts bs → IsStepped n env env bs bs s
stays_stepped n env bs s e f set = (alike_itself (around_of n env) (around_behind n (block_counts bs) (around_of n env) s) (sym e), sym f)

pub atom_stepped : (n : Nodes) (K : ℕ → List Ty → Ty) (e e' : Emitter) (env env' : Environment) (bs : List Block) (t : TermId) →
    AtomWritten K e e' (around_of n env) (around_of n env') (tree n t.0) → IsStepped n env env' bs bs (on.Atom t)
atom_stepped n K e e' env env' bs t p set = (alike_itself (around_of n env') (around_of n env) (p.calm set), refl)

opened_counts : (n : Nodes) (env : Environment) (bs bs' : List Block) (l : Block) → bs' ≡ bs ++ l ∷ [] → l.variables ≡ length env.own.items → block_counts bs' ≡ length (around_of n env).own ∷ block_counts bs
opened_counts n env bs bs' l more many = ap block_counts more ∙ counts_more bs l ∙ ap (λ k. k ∷ block_counts bs) (many ∙ sym (map_length (seen n) env.own.items))

pub open_stepped : (n : Nodes) (e e' : Emitter) (env : Environment) (bs bs' : List Block) (i : Instr) (s : Step) → BlockOpened e e' env bs bs' i →
    around_behind n (block_counts bs) (around_of n env) s ≡ around_of n env → blocks_behind (block_counts bs) (around_of n env) s ≡ length (around_of n env).own ∷ block_counts bs → IsStepped n env env bs bs' s
open_stepped n e e' env bs bs' i s (l, more, many, at, from, code, types, registers) f g set =
    (alike_itself (around_of n env) (around_behind n (block_counts bs) (around_of n env) s) (sym f), opened_counts n env bs bs' l more many ∙ sym g)

pub left_stepped : (n : Nodes) (env env' : Environment) (bs bs' : List Block) (s : Step) → around_of n env' ≡ around_behind n (block_counts bs) (around_of n env) s →
    block_counts bs' ≡ blocks_behind (block_counts bs) (around_of n env) s → IsStepped n env env' bs bs' s
left_stepped n env env' bs bs' s e f set = (alike_itself (around_of n env') (around_behind n (block_counts bs) (around_of n env) s) e, f)

pushed_alike : (a a' : Around) (r : ℕ) (T : Ty) → a' ≡ pushed a (quantified r T) → IsAlike a' (with_variable a T)
pushed_alike a a' r T e = subst (λ x. IsAlike x (with_variable a T)) (sym e) (alike_pushed a r T)

pub some_stepped : (n : Nodes) (e e' : Emitter) (env env' : Environment) (bs : List Block) (T : TypeId) →
    SomeOpened e e' (around_of n env) (around_of n env') (type_tree n T.0) → IsStepped n env env' bs bs (on.Some T)
some_stepped n e e' env env' bs T (mid, k, put, code, types, registers, around) set = (pushed_alike (around_of n env) (around_of n env') mid.registers (type_tree n T.0) around, refl)

pub all_stepped : (n : Nodes) (e e' : Emitter) (env env' : Environment) (bs bs' : List Block) (T : TypeId) →
    AllOpened e e' (around_of n env) (around_of n env') bs bs' (type_tree n T.0) → IsStepped n env env' bs bs' (on.All T)
all_stepped n e e' env env' bs bs' T (mid, k, l, put, code, types, registers, around, blocks, variables) set = (
  pushed_alike (around_of n env) (around_of n env') mid.registers (type_tree n T.0) around,
  ap block_counts blocks ∙ counts_more bs l ∙ ap (λ k. k ∷ block_counts bs) variables,
)

-- the step that it is

module _ (n : Nodes) (v : ℕ) (xs : List Assumption) (K : ℕ → List Ty → Ty) where
  pub step_uses : {e e' : Emitter} (a : Around) (s s1 : Step) → s ≡ s1 → Uses e e' (block_step_takes n v xs K a s1) → Uses e e' (block_step_takes n v xs K a s)
  step_uses a s s1 is x = uses_same (ap (block_step_takes n v xs K a) (sym is)) x

  pub step_lacks : {e : Emitter} (a : Around) (s s1 : Step) (r : RecordRefusal) → s ≡ s1 → Lacks e (block_step_takes n v xs K a s1) r → Lacks e (block_step_takes n v xs K a s) r
  step_lacks {e} a s s1 r is x = subst (λ k. Lacks e (block_step_takes n v xs K a k) r) (sym is) x

pub step_stepped : (n : Nodes) (env env' : Environment) (bs bs' : List Block) (s s1 : Step) → s ≡ s1 → IsStepped n env env' bs bs' s1 → IsStepped n env env' bs bs' s
step_stepped n env env' bs bs' s s1 is x = subst (IsStepped n env env' bs bs') (sym is) x

-- levels that are found

pub found_fewer : (a : Around) (ks more : List ℕ) → length (levels_found a ks) ≤ length (levels_found a (ks ++ more))
found_fewer a [] more = omega arith
found_fewer a (k ∷ ks) more =
    let x = length-append (level_found (at_level a k) k) (levels_found a ks) in
    let y = length-append (level_found (at_level a k) k) (levels_found a (ks ++ more)) in
    let z = found_fewer a ks more in
    omega (arith, x, y, z)

pub more_refused : (n m : ℕ) (e : RecordRefusal) → n ≤ m → IsRefused (65535 < n) e → IsRefused (65535 < m) e
more_refused n m refusal.Registers le p = omega (arith, le, p)
more_refused n m refusal.Memory le p = tt
