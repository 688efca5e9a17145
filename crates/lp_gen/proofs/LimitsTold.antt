-- Which limit is told.
use Rattle.std.proofs.Common.{◌≡◌, ◌≤◌, ℕ, refl, sym, subst, arith}
use Rattle.lp_base.specs.declared.limit.Limit.{Limit}
use Rattle.lp_base.specs.declared.limit.Limit.TheVariants as limit
use Rattle.lp_gen.specs.declared.fault.GenRefusal.{GenRefusal}
use Rattle.lp_gen.specs.declared.fault.GenRefusal.TheVariants as refusal
use Rattle.lp_gen.specs.Limits.{Counts, AreFew, IsTold}
use Rattle.lp_gen.specs.declared.limits.Look.TheVariants as look
use Rattle.lp_gen.specs.inner.Limiting.{IsOfPlan, IsOver}

-- where no limit is passed that is looked at before, a plan has no more records than are allowed
pub told_by_plan : (n : Counts) (P : Type 0) (r m : ℕ) (e : GenRefusal) → AreFew n → r ≤ m → IsOfPlan r m e → (e ≡ refusal.Limit limit.Registers → P) → IsTold n P e
told_by_plan n P r m (refusal.Limit limit.Clauses) w le p f = absurd (omega (arith, le, p))
told_by_plan n P r m (refusal.Limit limit.Registers) w le p f = (w, f refl)
told_by_plan n P r m (refusal.Limit limit.File) w le p f = absurd p
told_by_plan n P r m (refusal.Limit limit.Image) w le p f = absurd p
told_by_plan n P r m (refusal.Limit limit.Modules) w le p f = absurd p
told_by_plan n P r m (refusal.Limit limit.Copies) w le p f = absurd p
told_by_plan n P r m (refusal.Limit limit.Names) w le p f = absurd p
told_by_plan n P r m (refusal.Limit limit.NameLength) w le p f = absurd p
told_by_plan n P r m (refusal.Limit limit.Arguments) w le p f = absurd p
told_by_plan n P r m (refusal.Limit limit.Nesting) w le p f = absurd p
told_by_plan n P r m (refusal.Limit limit.NormalForm) w le p f = absurd p
told_by_plan n P r m (refusal.Limit limit.Text) w le p f = absurd p
told_by_plan n P r m refusal.Memory w le p f = tt

-- what is told of the limits that are looked for first is told whatever records have
pub told_first : (n : Counts) (P : Type 0) (e : GenRefusal) → IsTold n ⊥ e → IsTold n P e
told_first n P (refusal.Limit limit.Clauses) p = p
told_first n P (refusal.Limit limit.Registers) p = absurd p.1
told_first n P (refusal.Limit limit.File) p = absurd p
told_first n P (refusal.Limit limit.Image) p = absurd p
told_first n P (refusal.Limit limit.Modules) p = absurd p
told_first n P (refusal.Limit limit.Copies) p = absurd p
told_first n P (refusal.Limit limit.Names) p = absurd p
told_first n P (refusal.Limit limit.NameLength) p = absurd p
told_first n P (refusal.Limit limit.Arguments) p = p
told_first n P (refusal.Limit limit.Nesting) p = p
told_first n P (refusal.Limit limit.NormalForm) p = absurd p
told_first n P (refusal.Limit limit.Text) p = p
told_first n P refusal.Memory p = tt

-- what is looked for is told, where what comes before it is not met

told_as : (n : Counts) (l m : Limit) → l ≡ m → IsTold n ⊥ (refusal.Limit m) → IsTold n ⊥ (refusal.Limit l)
told_as n l m e p = subst (λ l. IsTold n ⊥ (refusal.Limit l)) (sym e) p

pub strings_told : (n : Counts) (e : GenRefusal) → IsOver look.Strings 0 n.strings e → IsTold n ⊥ e
strings_told n (refusal.Limit l) p = told_as n l limit.Text p.0 p.1
strings_told n refusal.Memory p = tt

pub arguments_told : (n : Counts) (e : GenRefusal) → n.strings ≡ 0 → IsOver look.Arguments 0 n.arguments e → IsTold n ⊥ e
arguments_told n (refusal.Limit l) s p = told_as n l limit.Arguments p.0 (s, p.1)
arguments_told n refusal.Memory s p = tt

pub nesting_told : (n : Counts) (e : GenRefusal) → n.strings ≡ 0 → n.arguments ≡ 0 → IsOver look.Nesting 0 n.nesting e → IsTold n ⊥ e
nesting_told n (refusal.Limit l) s a p = told_as n l limit.Nesting p.0 (s, a, p.1)
nesting_told n refusal.Memory s a p = tt

pub records_told : (n : Counts) (e : GenRefusal) → n.strings ≡ 0 → n.arguments ≡ 0 → n.nesting ≡ 0 → IsOver look.Records 65535 n.records e → IsTold n ⊥ e
records_told n (refusal.Limit l) s a d p = told_as n l limit.Clauses p.0 (s, a, d, p.1)
records_told n refusal.Memory s a d p = tt
