-- The variables in the terms of a record are its own and those of earlier records, and it hands on no others.
use Rattle.std.proofs.Common.{◌≡◌, ◌∙◌, ◌<◌, ◌≤◌, ◌+◌, ℕ, zero, suc, List, [], ◌∷◌, ◌++◌, map, length, Bool, true, false, Option, Some, None, ap, refl, sym, subst, arith, inl, inr}
use Rattle.std.specs.Prelude.{nat_eq, nat_lt, not, ◌||◌, ◌&&◌, if◌then◌else◌, slice_get, slice_set, unwrap_or, Vec}
use Rattle.std.specs.Global.{Global}
use Rattle.std.specs.Option.{option_flatten}
use Rattle.std.proofs.lemmas.Bool.{eqb-true, ltb-true}
use Rattle.lp_lemmas.proofs.Booleans.{and_true_left, and_true_right}
use Rattle.lp_calculus.specs.Term.{Term, index, atom, abs, app, apply, logic, constant, integer, text, eigen, param}
use Rattle.lp_code.specs.declared.instruction.Instr.{Instr}
use Rattle.lp_code.specs.declared.instruction.Instr.TheVariants as on
use Rattle.lp_code.specs.declared.record.Record.{Record}
use Rattle.lp_code.specs.Length.{length_of}
use Rattle.lp_code.specs.Operands.{term_set}
use Rattle.lp_code.specs.Rules.{is_assumed_record}
use Rattle.lp_code.specs.Symbolic.{Built, held, term_in, terms_in, plain_terms}
use Rattle.lp_code.specs.States.{State, Home, Captured, member}
use Rattle.lp_code.specs.Steps.{captured_by, handed}
use Rattle.lp_code.specs.Denote.{captured_of, first_state, nothing_captured, started}
use Rattle.lp_verify.specs.declared.blocks.Block as kept
use Rattle.lp_verify.specs.inner.Sides.{ends_at, sides_of, sides_run}
use Rattle.lp_verify.specs.inner.Stack.{Turning, stays, opens, leaves, turns_over, turning, stack_of, terms_in_stack, doubled, without_inner, stack_turned, stack_settled, set_all, with_first}
use Rattle.lp_verify.specs.inner.Handed.{assumption_of, handed_on}
use Rattle.lp_verify.specs.inner.Made.{nothing_built, term_made}
use Rattle.lp_verify.specs.inner.Told.{is_fine, are_fine, names_badly}
use Rattle.lp_verify.specs.inner.Low.{IsLow, HoldsLow, AllHoldLow, AreLowTerms, HandedLow}
use Rattle.lp_verify.proofs.Members.{started_at}
use Rattle.lp_verify.proofs.HandedOn.{captured_here, captured_nothing, names_handed}
use Rattle.lp_verify.proofs.Outlines.{behind, Nests, terms_stack_is}
use Rattle.lp_verify.proofs.HeadSteps.{one_of}

-- a term of an earlier record
pub low_later : (m n : ℕ) (t : Term) → m ≤ n → IsLow m t → IsLow n t
low_later m n (index i) l h = tt
low_later m n (atom (logic r k)) l h = omega (arith, l, h)
low_later m n (atom (constant c ts)) l h = tt
low_later m n (atom (integer z)) l h = tt
low_later m n (atom (text s)) l h = tt
low_later m n (atom (eigen k)) l h = tt
low_later m n (atom (param k T)) l h = tt
low_later m n (abs b) l h = low_later m n b l h
low_later m n (app t u) l h = (low_later m n t l h.0, low_later m n u l h.1)

low_applied : (n : ℕ) (s : State) (t : Term) (rs : List ℕ) → HoldsLow n s.now.terms → IsLow n t → IsLow n (apply t (plain_terms (terms_in s.now rs)))
low_applied n s t [] low h = h
low_applied n s t (r ∷ rs) low h = low_applied n s (app t (term_in s.now r).term) rs low (h, low r)

-- what an instruction makes
low_made : (h : Home) (s : State) (i : Instr) → HoldsLow (suc h.number) s.now.terms → IsLow (suc h.number) (term_made h s i).term
low_made h s (on.TyCon d k ts) low = tt
low_made h s (on.TyArr d x y) low = tt
low_made h s (on.TyNew d) low = tt
low_made h s (on.New d t) low = omega arith
low_made h s (on.PutConst d c ts) low = tt
low_made h s (on.PutInt d z) low = tt
low_made h s (on.PutStr d z) low = tt
low_made h s (on.PutIndex d x t) low = tt
low_made h s (on.PutAbs d x t) low = low x
low_made h s (on.PutApp d f rs) low = low_applied (suc h.number) s (term_in s.now f).term rs.items low (low f)
low_made h s (on.GetType j t) low = tt
low_made h s (on.GetVar x d) low = omega arith
low_made h s (on.Get x r) low = tt
low_made h s (on.GetConst x c ts) low = tt
low_made h s (on.GetInt x z) low = tt
low_made h s (on.GetStr x z) low = tt
low_made h s on.Neck low = tt
low_made h s (on.Call c ts rs) low = tt
low_made h s (on.CallTerm r) low = tt
low_made h s (on.Equal t l r) low = tt
low_made h s (on.Is t l r) low = tt
low_made h s (on.Less l r) low = tt
low_made h s (on.Greater l r) low = tt
low_made h s (on.AtMost l r) low = tt
low_made h s (on.AtLeast l r) low = tt
low_made h s on.Cut low = tt
low_made h s (on.Sigma d t) low = omega arith
low_made h s (on.All d t) low = omega arith
low_made h s on.EndAll low = tt
low_made h s (on.Assume ns ts rs) low = tt
low_made h s on.EndAssume low = tt
low_made h s (on.Either m) low = tt
low_made h s (on.Jump m) low = tt
low_made h s on.Proceed low = tt
low_made h s on.Not low = tt
low_made h s on.EndNot low = tt

-- whatever blocks are opened and left
module _ (n : ℕ) where
  low_doubled : (xss : List (List (Option Built))) → AllHoldLow n xss → AllHoldLow n (doubled xss)
  low_doubled [] a = tt
  low_doubled (xs ∷ xss) a = (a.0, a)

  low_inner : (xss : List (List (Option Built))) → AllHoldLow n xss → AllHoldLow n (without_inner xss)
  low_inner [] a = tt
  low_inner (xs ∷ []) a = a
  low_inner (xs ∷ ys ∷ xss) a = a.1

  low_turned : (t : Turning) (xss : List (List (Option Built))) → AllHoldLow n xss → AllHoldLow n (stack_turned t xss)
  low_turned stays xss a = a
  low_turned opens xss a = low_doubled xss a
  low_turned leaves xss a = low_inner xss a
  low_turned turns_over xss a = low_doubled (without_inner xss) (low_inner xss a)

  low_settled : (p : ℕ) (ss : List kept.Block) (xss : List (List (Option Built))) → AllHoldLow n xss → AllHoldLow n (stack_settled p ss xss)
  low_settled p [] xss a = a
  low_settled p (s ∷ ss) xss a = by_end (ends_at p s) (low_settled p ss (without_inner xss) (low_inner xss a))
    where
      by_end : (b : Bool) → AllHoldLow n (stack_settled p ss (without_inner xss)) → AllHoldLow n (if b then stack_settled p ss (without_inner xss) else xss)
      by_end true go = go
      by_end false go = a

  low_set : (xs : List (Option Built)) (d : ℕ) (b : Built) → IsLow n b.term → HoldsLow n xs → HoldsLow n (slice_set xs d (Some b))
  low_set [] d b h low r = low r
  low_set (x ∷ xs) zero b h low zero = h
  low_set (x ∷ xs) zero b h low (suc r) = low (suc r)
  low_set (x ∷ xs) (suc d) b h low zero = low zero
  low_set (x ∷ xs) (suc d) b h low (suc r) = low_set xs d b h (λ r. low (suc r)) r

  low_all_set : (ds : List ℕ) (b : Built) (xs : List (Option Built)) → IsLow n b.term → HoldsLow n xs → HoldsLow n (set_all xs ds b)
  low_all_set [] b xs h low = low
  low_all_set (d ∷ ds) b xs h low = low_all_set ds b (slice_set xs d (Some b)) h (low_set xs d b h low)

  low_first : (ds : List ℕ) (b : Built) (xss : List (List (Option Built))) → IsLow n b.term → AllHoldLow n xss → AllHoldLow n (with_first ds b xss)
  low_first ds b [] h a = tt
  low_first ds b (xs ∷ xss) h a = (low_all_set ds b xs h a.0, a.1)

pub low_behind : (h : Home) (s : State) (i : Instr) → Nests i s → AllHoldLow (suc h.number) (terms_in_stack (stack_of s)) → AllHoldLow (suc h.number) (terms_in_stack (stack_of (behind h s i)))
low_behind h s i n a =
    let k = suc h.number in
    subst (AllHoldLow k) (sym (terms_stack_is h s i n))
    (low_settled k (s.place + length_of i) (sides_run i s.place (sides_of s.frames)) _ (low_first k (term_set i) (term_made h s i) (stack_turned (turning i) (terms_in_stack (stack_of s))) (low_made h s i a.0) (low_turned k (turning i) (terms_in_stack (stack_of s)) a)))

-- what a record starts with
pub low_start : (n : ℕ) (r : Record) (c : Captured) → AreLowTerms n c.terms → HoldsLow n (first_state r c).now.terms
low_start n r c low q = subst (λ o. IsLow n (unwrap_or o nothing_built).term) (sym (started_at c.terms r.registers q)) (low q)

pub held_later : (m n : ℕ) (xs : List (Option Built)) → m ≤ n → HoldsLow m xs → HoldsLow n xs
held_later m n xs l low r = low_later m n (unwrap_or (held xs r) nothing_built).term l (low r)

-- what is handed on
low_captured : (n : ℕ) (s : State) (rs : List ℕ) → HoldsLow n s.now.terms → AreLowTerms n (terms_in s.now rs)
low_captured n s [] low r = tt
low_captured n s (q ∷ rs) low zero = low q
low_captured n s (q ∷ rs) low (suc r) = low_captured n s rs low r

nothing_low : (n : ℕ) → AreLowTerms n nothing_captured.terms
nothing_low n r = tt

later_names : (k : ℕ) (all : List Record) (f : ℕ → Bool) (ts rs : ℕ) (ns : List ℕ) (n : ℕ) → are_fine k all f ts rs ns ≡ true → member n ns ≡ true → k < n
later_names k all f ts rs [] n e m = absurd (let z : false ≡ true = m in cc)
later_names k all f ts rs (x ∷ ns) n e m =
    let here = and_true_left (is_fine k all f ts rs x) (are_fine k all (λ m. nat_eq m x || f m) ts rs ns) e in
    let behind = and_true_right (is_fine k all f ts rs x) (are_fine k all (λ m. nat_eq m x || f m) ts rs ns) e in
    elim (one_of (nat_eq n x) (member n ns) m) [
      | inl g ↦ subst (λ x. k < x) (sym (eqb-true n x g)) (ltb-true k x (first (nat_lt k x) (is_assumed_record (slice_get all x) ts rs) (not (f x)) here))
      | inr g ↦ later_names k all (λ m. nat_eq m x || f m) ts rs ns n behind g
    ]
  where
    first : (a b c : Bool) → (a && b && c) ≡ true → a ≡ true
    first true b c e = refl
    first false true c e = absurd (let z : false ≡ true = e in cc)
    first false false c e = absurd (let z : false ≡ true = e in cc)

low_assumed : (h : Home) (s : State) (f : ℕ → Bool) (ns ts rs : List ℕ) → HoldsLow (suc h.number) s.now.terms → are_fine h.number h.records f (length ts) (length rs) ns ≡ true
    → HandedLow (handed ns (captured_by s ts rs))
low_assumed h s f ns ts rs low fine n = by_name (member n ns) refl
  where
    by_name : (b : Bool) → member n ns ≡ b → AreLowTerms n (captured_of (handed ns (captured_by s ts rs)) n).terms
    by_name true m =
        let l : h.number < n = later_names h.number h.records f (length ts) (length rs) ns n fine m in
        subst (λ (c : Captured). AreLowTerms n c.terms) (sym (captured_here ns (captured_by s ts rs) n m)) (λ r. low_later (suc h.number) n (unwrap_or (slice_get (terms_in s.now rs) r) nothing_built).term (omega (arith, l)) (low_captured (suc h.number) s rs low r))
    by_name false m = subst (λ (c : Captured). AreLowTerms n c.terms) (sym (captured_nothing (handed ns (captured_by s ts rs)) n (ap (member n) (names_handed ns (captured_by s ts rs)) ∙ m))) (nothing_low n)

not_broken : (b : Bool) → not b ≡ false → b ≡ true
not_broken true e = refl
not_broken false e = absurd (let z : true ≡ false = e in cc)

low_handed_on : (h : Home) (s : State) (f : ℕ → Bool) (i : Instr) → HoldsLow (suc h.number) s.now.terms → names_badly h.number h.records h.self.program f i ≡ false
    → HandedLow (handed_on s (assumption_of i))
low_handed_on h s f (on.TyCon d k ts) low e = nothing_low
low_handed_on h s f (on.TyArr d x y) low e = nothing_low
low_handed_on h s f (on.TyNew d) low e = nothing_low
low_handed_on h s f (on.New d t) low e = nothing_low
low_handed_on h s f (on.PutConst d c ts) low e = nothing_low
low_handed_on h s f (on.PutInt d z) low e = nothing_low
low_handed_on h s f (on.PutStr d z) low e = nothing_low
low_handed_on h s f (on.PutIndex d x t) low e = nothing_low
low_handed_on h s f (on.PutAbs d x t) low e = nothing_low
low_handed_on h s f (on.PutApp d g rs) low e = nothing_low
low_handed_on h s f (on.GetType j t) low e = nothing_low
low_handed_on h s f (on.GetVar x d) low e = nothing_low
low_handed_on h s f (on.Get x r) low e = nothing_low
low_handed_on h s f (on.GetConst x c ts) low e = nothing_low
low_handed_on h s f (on.GetInt x z) low e = nothing_low
low_handed_on h s f (on.GetStr x z) low e = nothing_low
low_handed_on h s f on.Neck low e = nothing_low
low_handed_on h s f (on.Call c ts rs) low e = nothing_low
low_handed_on h s f (on.CallTerm r) low e = nothing_low
low_handed_on h s f (on.Equal t l r) low e = nothing_low
low_handed_on h s f (on.Is t l r) low e = nothing_low
low_handed_on h s f (on.Less l r) low e = nothing_low
low_handed_on h s f (on.Greater l r) low e = nothing_low
low_handed_on h s f (on.AtMost l r) low e = nothing_low
low_handed_on h s f (on.AtLeast l r) low e = nothing_low
low_handed_on h s f on.Cut low e = nothing_low
low_handed_on h s f (on.Sigma d t) low e = nothing_low
low_handed_on h s f (on.All d t) low e = nothing_low
low_handed_on h s f on.EndAll low e = nothing_low
low_handed_on h s f (on.Assume ns ts rs) low e = low_assumed h s f ns.items ts.items rs.items low (not_broken (are_fine h.number h.records f (length ts.items) (length rs.items) ns.items) e)
low_handed_on h s f on.EndAssume low e = nothing_low
low_handed_on h s f (on.Either n) low e = nothing_low
low_handed_on h s f (on.Jump n) low e = nothing_low
low_handed_on h s f on.Proceed low e = nothing_low
low_handed_on h s f on.Not low e = nothing_low
low_handed_on h s f on.EndNot low e = nothing_low

-- of two lists, at one number
low_both : (n : ℕ) (xs ys : List (ℕ × Captured)) → AreLowTerms n (captured_of xs n).terms → AreLowTerms n (captured_of ys n).terms → AreLowTerms n (captured_of (xs ++ ys) n).terms
low_both n [] ys a b = b
low_both n ((m, c) ∷ xs) ys a b = by (nat_eq m n) a (λ a. low_both n xs ys a b)
  where
    by : (t : Bool) → AreLowTerms n (if t then c else captured_of xs n).terms → (AreLowTerms n (captured_of xs n).terms → AreLowTerms n (captured_of (xs ++ ys) n).terms)
        → AreLowTerms n (if t then c else captured_of (xs ++ ys) n).terms
    by true a go = a
    by false a go = go a

pub low_handed : (h : Home) (s : State) (f : ℕ → Bool) (i : Instr) (before : List (ℕ × Captured)) → HandedLow before → HoldsLow (suc h.number) s.now.terms
    → names_badly h.number h.records h.self.program f i ≡ false → HandedLow (before ++ handed_on s (assumption_of i))
low_handed h s f i before a low e n = low_both n before (handed_on s (assumption_of i)) (a n) (low_handed_on h s f i low e n)
