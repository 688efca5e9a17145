-- What a turn leaves of a search is less than what was left before it.
use Rattle.std.proofs.Common.{◌≡◌, ℕ, zero, suc, ◌+◌, ◌-◌, ◌*◌, ◌^◌, ◌<◌, ◌≤◌, List, [], ◌∷◌, ◌++◌, take, length, Option, Some, None, Bool, true, false, if◌then◌else◌, nat_lt, refl, sym, ap, ◌∙◌, subst, arith}
use Rattle.std.specs.Prelude.{IfSome}
use Rattle.std.proofs.lemmas.Bool.{ltb-true}
use Rattle.lp_model.specs.declared.ending.Ending.TheVariants.{OpenNot}
use Rattle.lp_plain.specs.declared.candidates.Candidate.{Candidate}
use Rattle.lp_plain.specs.declared.candidates.Candidate.TheVariants as candidate
use Rattle.lp_plain.specs.declared.choice.Call.{Call}
use Rattle.lp_plain.specs.declared.choice.Choice.{Choice}
use Rattle.lp_plain.specs.declared.choice.Denial.{Denial}
use Rattle.lp_plain.specs.declared.choice.Untried.{Untried}
use Rattle.lp_plain.specs.declared.machine.Counts.{Counts}
use Rattle.lp_plain.specs.declared.machine.Machine.{Machine}
use Rattle.lp_plain.specs.declared.outcome.Turn.{Turn}
use Rattle.lp_plain.specs.Apart.{apart, one_apart}
use Rattle.lp_plain.specs.Candidates.{ahead, back}
use Rattle.lp_plain.specs.Cuts.{cut_off, one_step}
use Rattle.lp_plain.specs.Denials.{goes_around, with_lost}
use Rattle.lp_plain.specs.Keeping.{HasOneMore}
use Rattle.lp_plain.specs.inner.Remaining.{ComesAfter, IsPopped, IsSpent, IsUsed, MayChoose, Uses, assumed_rank, left_at, left_behind, program_rank, rank, remaining, total, weight}

-- candidates

ahead_by : (b : Bool) (k i : ℕ) → nat_lt k i ≡ b → k < 2 ^ 64 → program_rank (if b then Some i else None) < 2 ^ 64 - k
ahead_by true k i e l = let m = ltb-true k i e in omega (arith, l, m)
ahead_by false k i e l = omega (arith, l)

ahead_less : (k : ℕ) (o : Option ℕ) → k < 2 ^ 64 → program_rank (ahead k o) < 2 ^ 64 - k
ahead_less k None l = omega (arith, l)
ahead_less k (Some i) l = ahead_by (nat_lt k i) k i refl l

back_by : (b : Bool) (k i : ℕ) → nat_lt i k ≡ b → assumed_rank (if b then Some i else None) < 2 ^ 64 + 1 + k
back_by true k i e = let m = ltb-true i k e in omega (arith, m)
back_by false k i e = omega arith

back_less : (k : ℕ) (o : Option ℕ) → assumed_rank (back k o) < 2 ^ 64 + 1 + k
back_less k None = omega arith
back_less k (Some i) = back_by (nat_lt i k) k i refl

pub program_most : (o : Option ℕ) → program_rank o ≤ 2 ^ 64
program_most None = omega arith
program_most (Some k) = omega arith

-- the next link of a chain is further on
pub further_rank : (k : ℕ) (at next from : Option ℕ) (o : Option ℕ) → at ≡ Some k → next ≡ ahead k o → k < 2 ^ 64 → program_rank at ≤ program_rank from → program_rank next ≤ program_rank from
further_rank k at next from o e q l h =
    let a : program_rank next < 2 ^ 64 - k = subst (λ z. program_rank z < 2 ^ 64 - k) (sym q) (ahead_less k o l) in
    let b : program_rank at ≡ 2 ^ 64 - k = ap program_rank e in
    omega (arith, a, b, h)

pub found_rank : (k : ℕ) (at from : Option ℕ) → at ≡ Some k → program_rank at ≤ program_rank from → 2 ^ 64 - k ≤ program_rank from
found_rank k at from e h = let b : program_rank at ≡ 2 ^ 64 - k = ap program_rank e in omega (arith, b, h)

pub assumed_found : (i : ℕ) (assumed : Option ℕ) → assumed ≡ Some i → 2 ^ 64 + 1 + i ≤ assumed_rank assumed
assumed_found i assumed e = let b : assumed_rank assumed ≡ 2 ^ 64 + 1 + i = ap assumed_rank e in omega (arith, b)

pub program_found : (found : Option Candidate) (assumed first : Option ℕ) → assumed ≡ None → IfSome found (λ c. rank c ≤ program_rank first) → IfSome found (λ c. rank c ≤ assumed_rank assumed)
program_found None assumed first e h = tt
program_found (Some c) assumed first e h = let b : assumed_rank assumed ≡ 2 ^ 64 = ap assumed_rank e in let m = program_most first in omega (arith, b, h, m)

pub after_assumed : (one : Candidate) (i : ℕ) (found : Option Candidate) (o before : Option ℕ) → one ≡ candidate.Assumed i → i < 2 ^ 64 → before ≡ back i o → IfSome found (λ c. rank c ≤ assumed_rank before) → ComesAfter one found
after_assumed one i None o before e l q h = tt
after_assumed one i (Some d) o before e l q h =
    let a : assumed_rank before < 2 ^ 64 + 1 + i = subst (λ z. assumed_rank z < 2 ^ 64 + 1 + i) (sym q) (back_less i o) in
    let b : rank one ≡ 2 ^ 64 + 1 + i = ap rank e in
    (omega (arith, a, b, h), omega (arith, a, h, l))

pub after_program : (one : Candidate) (k : ℕ) (found : Option Candidate) (o behind : Option ℕ) → one ≡ candidate.Program k → k < 2 ^ 64 → behind ≡ ahead k o → IfSome found (λ c. rank c ≤ program_rank behind) → ComesAfter one found
after_program one k None o behind e l q h = tt
after_program one k (Some d) o behind e l q h =
    let a : program_rank behind < 2 ^ 64 - k = subst (λ z. program_rank z < 2 ^ 64 - k) (sym q) (ahead_less k o l) in
    let b : rank one ≡ 2 ^ 64 - k = ap rank e in
    (omega (arith, a, b, h), omega (arith, a, h))

-- alternatives

total_append : (xs ys : List Choice) → total (xs ++ ys) ≡ total xs + total ys
total_append [] ys = omega arith
total_append (x ∷ xs) ys = let e = total_append xs ys in omega (arith, e)

total_push : (xs : List Choice) (x : Choice) → total (xs ++ x ∷ []) ≡ total xs + weight x.untried
total_push xs x = let e = total_append xs (x ∷ []) in omega (arith, e)

pub total_take : (n : ℕ) (xs : List Choice) → total (take n xs) ≤ total xs
total_take zero [] = omega arith
total_take zero (x ∷ xs) = omega arith
total_take (suc n) [] = omega arith
total_take (suc n) (x ∷ xs) = let e = total_take n xs in omega (arith, e)

pub same_few : (old new : Machine) → new.counts ≡ old.counts → new.choices.items ≡ old.choices.items → MayChoose old new
same_few old new e q = record { counts = e; choices = let f : total new.choices.items ≡ total old.choices.items = ap total q in omega (arith, f) }

more_total : (old new : List Choice) (u : Untried) → HasOneMore old new u → total new ≡ total old + weight u
more_total old new u h = ap total h.more ∙ total_push old h.choice ∙ ap (λ z. total old + weight z) h.left

pub aside_few : (old new : Machine) (g : Option ℕ) → new.counts ≡ old.counts → HasOneMore old.choices.items new.choices.items (Untried.Goals g) → MayChoose old new
aside_few old new g e h = record { counts = e; choices = let f = more_total old.choices.items new.choices.items (Untried.Goals g) h in omega (arith, f) }

pub few_then : (old mid new : Machine) → mid.counts ≡ old.counts → mid.choices.items ≡ old.choices.items → MayChoose mid new → MayChoose old new
few_then old mid new e q f = record { counts = f.counts ∙ e; choices = let c = f.choices in let t : total mid.choices.items ≡ total old.choices.items = ap total q in omega (arith, c, t) }

pub few_behind : (old mid new : Machine) → new.counts ≡ mid.counts → new.choices.items ≡ mid.choices.items → MayChoose old mid → MayChoose old new
few_behind old mid new e q f = record { counts = e ∙ f.counts; choices = let c = f.choices in let t : total new.choices.items ≡ total mid.choices.items = ap total q in omega (arith, c, t) }

-- a candidate is tried

pub none_spent : (old : Machine) (one : Candidate) → IsSpent old old one
none_spent old one = record { counts = refl; fewer = omega arith; choices = omega arith }

pub others_spent : (old new : Machine) (call : Call) (one next : Candidate) → ComesAfter one (Some next) → new.counts ≡ old.counts → HasOneMore old.choices.items new.choices.items (Untried.Clauses call next) → IsSpent old new one
others_spent old new call one next a e h =
    let f = more_total old.choices.items new.choices.items (Untried.Clauses call next) h in
    let l = a.0 in
    let m = a.1 in
    record { counts = e; fewer = omega (arith, f, l); choices = omega (arith, f, m) }

pub spent_then : (old mid new : Machine) (one : Candidate) → IsSpent old mid one → new.counts ≡ mid.counts → new.choices.items ≡ mid.choices.items → IsSpent old new one
spent_then old mid new one s e q =
    let f : total new.choices.items ≡ total mid.choices.items = ap total q in
    let l = s.fewer in
    let m = s.choices in
    record { counts = e ∙ s.counts; fewer = omega (arith, f, l); choices = omega (arith, f, m) }

pub spent_few : (old new : Machine) (one : Candidate) → IsSpent old new one → MayChoose old new
spent_few old new one s = record { counts = s.counts; choices = s.choices }

-- steps and goals in a row

less_apart : (l s r q : ℕ) → r < 1000000 → q ≡ (l - s) * 1000001 + (1000000 - (r + 1)) → q < (l - s) * 1000001 + (1000000 - r)
less_apart l s r q h e = omega (arith, h, e)

less_step : (l s r q : ℕ) → s < l → q ≡ (l - (s + 1)) * 1000001 + (1000000 - 0) → q < (l - s) * 1000001 + (1000000 - r)
less_step l s r q h e = let d : l - s ≡ suc (l - (s + 1)) = omega (arith, h) in omega (arith, d, e)

pub apart_used : (old mid new : Machine) → mid ≡ apart old → old.counts.row < 1000000 → MayChoose mid new → IsUsed old new
apart_used old mid new e l f = record {
  counts = less_apart old.counts.limit old.counts.steps old.counts.row (remaining new.counts) l (ap remaining (f.counts ∙ ap (λ z. z.counts) e));
  choices = let c = f.choices in let t : total mid.choices.items ≡ total old.choices.items = ap (λ z. total z.choices.items) e in omega (arith, c, t);
}

pub step_used : (old mid new : Machine) → mid.counts ≡ one_step old.counts → mid.choices ≡ old.choices → old.counts.steps < old.counts.limit → MayChoose mid new → IsUsed old new
step_used old mid new e q l f = record {
  counts = less_step old.counts.limit old.counts.steps old.counts.row (remaining new.counts) l (ap remaining (f.counts ∙ e));
  choices = let c = f.choices in let t : total mid.choices.items ≡ total old.choices.items = ap (λ z. total z.items) q in omega (arith, c, t);
}

pub cut_used : (old new : Machine) (b : Bool) (k : ℕ) → new.counts ≡ cut_off (one_step old.counts) b → new.choices.items ≡ take k old.choices.items → old.counts.steps < old.counts.limit → IsUsed old new
cut_used old new b k e q l = record {
  counts = less_step old.counts.limit old.counts.steps old.counts.row (remaining new.counts) l (ap remaining e);
  choices = let t : total new.choices.items ≡ total (take k old.choices.items) = ap total q in let h = total_take k old.choices.items in omega (arith, t, h);
}

pub denied_used : (old mid new : Machine) (d : Denial) → mid.counts ≡ one_step old.counts → mid.choices.items ≡ old.choices.items → new.counts ≡ with_lost mid.counts false → HasOneMore mid.choices.items new.choices.items (Untried.Denied d) → old.counts.steps < old.counts.limit → IsUsed old new
denied_used old mid new d e q w h l = record {
  counts = less_step old.counts.limit old.counts.steps old.counts.row (remaining new.counts) l (ap remaining w ∙ ap remaining e);
  choices = let f = more_total mid.choices.items new.choices.items (Untried.Denied d) h in let t : total mid.choices.items ≡ total old.choices.items = ap total q in omega (arith, f, t);
}

pub used_from : (old mid new : Machine) → mid.counts ≡ old.counts → mid.choices.items ≡ old.choices.items → IsUsed mid new → IsUsed old new
used_from old mid new e q u = record {
  counts = subst (λ z. remaining new.counts < remaining z) e u.counts;
  choices = subst (λ z. total new.choices.items ≤ total z + 2 ^ 66) q u.choices;
}

-- turns

falls_on : (r s t u : ℕ) → s < r → u ≤ t + 2 ^ 66 → 2 + (s * 2 ^ 68 + 2 * u) < 2 + (r * 2 ^ 68 + 2 * t)
falls_on r s t u l m = omega (arith, l, m)

pub uses_less : (turn : Turn) (old new : Machine) → Uses turn old new → left_behind turn new < left_behind Turn.On old
uses_less Turn.On old new u = let h = u tt in falls_on (remaining old.counts) (remaining new.counts) (total old.choices.items) (total new.choices.items) h.counts h.choices
uses_less Turn.Back old new u =
    let h = u tt in
    let l = falls_on (remaining old.counts) (remaining new.counts) (total old.choices.items) (total new.choices.items) h.counts h.choices in
    omega (arith, l)
uses_less Turn.Answered old new u = omega arith
uses_less (Turn.Ended e) old new u = omega arith

pub back_same : (old new : Machine) → remaining new.counts ≡ remaining old.counts → total new.choices.items ≤ total old.choices.items → left_behind Turn.Back new < left_behind Turn.On old
back_same old new e l = omega (arith, e, l)

pub from_same : (turn : Turn) (old mid new : Machine) → mid.counts ≡ old.counts → mid.choices.items ≡ old.choices.items → left_behind turn new < left_behind Turn.On mid → left_behind turn new < left_behind Turn.On old
from_same turn old mid new e q l =
    let r : remaining mid.counts ≡ remaining old.counts = ap remaining e in
    let t : total mid.choices.items ≡ total old.choices.items = ap total q in
    omega (arith, r, t, l)

-- an alternative is taken
pub pushed_popped : (xs : List Choice) (x : Choice) (old new : Machine) → old.choices.items ≡ xs ++ x ∷ [] → new.choices.items ≡ xs → new.counts ≡ old.counts → IsPopped old new x.untried
pushed_popped xs x old new e q k = record { counts = k; choices = ap (λ z. total z + weight x.untried) q ∙ sym (total_push xs x) ∙ ap total (sym e) }

heavy : (u : Untried) → 1 ≤ weight u
heavy (Untried.Goals g) = omega arith
heavy (Untried.Clauses call c) = omega arith
heavy (Untried.Denied d) = omega arith

-- the search goes on with its branch
pub popped_on : (old mid new : Machine) (u : Untried) → IsPopped old mid u → remaining new.counts ≡ remaining mid.counts → new.choices.items ≡ mid.choices.items → left_behind Turn.On new < left_behind Turn.Back old
popped_on old mid new u p e q =
    let r : remaining mid.counts ≡ remaining old.counts = ap remaining p.counts in
    let t : total new.choices.items ≡ total mid.choices.items = ap total q in
    let c = p.choices in
    let h = heavy u in
    omega (arith, r, e, t, c, h)

-- or with a candidate of it
tried_on : (old mid new : Machine) (call : Call) (one : Candidate) → IsPopped old mid (Untried.Clauses call one) → IsSpent mid new one → 2 + left_at new < 1 + left_at old
tried_on old mid new call one p s =
    let r : remaining mid.counts ≡ remaining old.counts = ap remaining p.counts in
    let k : remaining new.counts ≡ remaining mid.counts = ap remaining s.counts in
    let c = p.choices in
    let f = s.fewer in
    omega (arith, r, k, c, f)

pub popped_tried : (turn : Turn) (old mid new : Machine) (u : Untried) (call : Call) (one : Candidate) → IsPopped old mid u → u ≡ Untried.Clauses call one → IsSpent mid new one → left_behind turn new < left_behind Turn.Back old
popped_tried Turn.On old mid new u call one p e s = tried_on old mid new call one (subst (IsPopped old mid) e p) s
popped_tried Turn.Back old mid new u call one p e s = let l = tried_on old mid new call one (subst (IsPopped old mid) e p) s in omega (arith, l)
popped_tried Turn.Answered old mid new u call one p e s = omega arith
popped_tried (Turn.Ended x) old mid new u call one p e s = omega arith

-- no alternative of a negated goal's search is left
pub popped_denied : (turn : Turn) (old mid new : Machine) (u : Untried) (d : Denial) → IsPopped old mid u → new ≡ goes_around mid d → (mid.counts.lost ≡ true → turn ≡ Turn.Ended OpenNot) → (mid.counts.lost ≡ false → turn ≡ Turn.On) → left_behind turn new < left_behind Turn.Back old
popped_denied turn old mid new u d p e lost none = go mid.counts.lost refl
  where
    go : (b : Bool) → mid.counts.lost ≡ b → left_behind turn new < left_behind Turn.Back old
    go true q = subst (λ t. left_behind t new < left_behind Turn.Back old) (sym (lost q)) (omega arith)
    go false q = subst (λ t. left_behind t new < left_behind Turn.Back old) (sym (none q)) (popped_on old mid new u p (ap (λ z. remaining z.counts) e) (ap (λ z. z.choices.items) e))
