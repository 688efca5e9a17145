-- What a register that a record starts with holds stays, whatever blocks are opened and left.
use Rattle.std.proofs.Common.{◌≡◌, ◌∙◌, ℕ, suc, List, [], ◌∷◌, ◌++◌, Bool, true, false, Option, Some, ap, refl, sym, subst}
use Rattle.std.specs.Prelude.{◌+◌, ◌||◌, nat_eq, if◌then◌else◌, slice_get, slice_set, unwrap_or}
use Rattle.std.specs.List.{list_any}
use Rattle.std.specs.Option.{option_flatten}
use Rattle.std.proofs.lemmas.Bool.{eqb-true, eqb-false}
use Rattle.lp_lemmas.proofs.Booleans.{or_false_left, or_false_right}
use Rattle.lp_lemmas.proofs.Numbers.{nat_eq_self}
use Rattle.lp_code.specs.declared.instruction.Instr.{Instr}
use Rattle.lp_code.specs.declared.instruction.Instr.TheVariants as on
use Rattle.lp_code.specs.declared.record.Record.{Record}
use Rattle.lp_code.specs.Length.{length_of}
use Rattle.lp_code.specs.Operands.{term_set}
use Rattle.lp_code.specs.Symbolic.{Built, held, term_in}
use Rattle.lp_code.specs.States.{State, Home, member}
use Rattle.lp_code.specs.Steps.{is_made}
use Rattle.lp_verify.specs.declared.blocks.Block as kept
use Rattle.lp_verify.specs.inner.Sides.{ends_at, sides_of, sides_run}
use Rattle.lp_verify.specs.inner.Stack.{Turning, stays, opens, leaves, turns_over, turning, stack_of, terms_in_stack, doubled, without_inner, stack_turned, stack_settled, set_all, with_first}
use Rattle.lp_verify.specs.inner.Outline.{Outline}
use Rattle.lp_verify.specs.inner.Made.{nothing_built, term_made}
use Rattle.lp_verify.specs.inner.Known.{makes_own_type, AreStill, IsStill}
use Rattle.lp_verify.proofs.Members.{member_append}
use Rattle.lp_verify.proofs.Outlines.{behind, Nests, outline_is, terms_stack_is}

module _ (r : ℕ) (o : Option Built) where
  still_rest : (xs : List (Option Built)) (xss : List (List (Option Built))) → AreStill r o (xs ∷ xss) → AreStill r o xss
  still_rest xs xss a = a.1

  still_doubled : (xss : List (List (Option Built))) → AreStill r o xss → AreStill r o (doubled xss)
  still_doubled [] a = tt
  still_doubled (xs ∷ xss) a = (a.0, a)

  still_inner : (xss : List (List (Option Built))) → AreStill r o xss → AreStill r o (without_inner xss)
  still_inner [] a = tt
  still_inner (xs ∷ []) a = a
  still_inner (xs ∷ ys ∷ xss) a = a.1

  still_turned : (t : Turning) (xss : List (List (Option Built))) → AreStill r o xss → AreStill r o (stack_turned t xss)
  still_turned stays xss a = a
  still_turned opens xss a = still_doubled xss a
  still_turned leaves xss a = still_inner xss a
  still_turned turns_over xss a = still_doubled (without_inner xss) (still_inner xss a)

  still_settled : (p : ℕ) (ss : List kept.Block) (xss : List (List (Option Built))) → AreStill r o xss → AreStill r o (stack_settled p ss xss)
  still_settled p [] xss a = a
  still_settled p (s ∷ ss) xss a = by_end (ends_at p s) (still_settled p ss (without_inner xss) (still_inner xss a))
    where
      by_end : (b : Bool) → AreStill r o (stack_settled p ss (without_inner xss)) → AreStill r o (if b then stack_settled p ss (without_inner xss) else xss)
      by_end true go = go
      by_end false go = a

  other_set : (xs : List (Option Built)) (d n : ℕ) (b : Option Built) → (n ≡ d → ⊥) → slice_get (slice_set xs d b) n ≡ slice_get xs n
  other_set [] d n b e = refl
  other_set (x ∷ xs) ℕ.zero ℕ.zero b e = absurd (e refl)
  other_set (x ∷ xs) ℕ.zero (suc n) b e = refl
  other_set (x ∷ xs) (suc d) ℕ.zero b e = refl
  other_set (x ∷ xs) (suc d) (suc n) b e = other_set xs d n b (λ q. e (ap (λ n. suc n) q))

  pub set_elsewhere : (ds : List ℕ) (b : Built) (xs : List (Option Built)) → member r ds ≡ false → held (set_all xs ds b) r ≡ held xs r
  set_elsewhere [] b xs e = refl
  set_elsewhere (d ∷ ds) b xs e = set_elsewhere ds b (slice_set xs d (Some b)) (or_false_right (nat_eq r d) (member r ds) e) ∙ ap option_flatten (other_set xs d r (Some b) (eqb-false r d (or_false_left (nat_eq r d) (member r ds) e)))

  still_first : (ds : List ℕ) (b : Built) (xss : List (List (Option Built))) → member r ds ≡ false → AreStill r o xss → AreStill r o (with_first ds b xss)
  still_first ds b [] e a = tt
  still_first ds b (xs ∷ xss) e a = (set_elsewhere ds b xs e ∙ a.0, a.1)

pub still_behind : (h : Home) (s : State) (i : Instr) (r : ℕ) → Nests i s → IsStill r s → member r (term_set i) ≡ false → AreStill r (held s.now.terms r) (terms_in_stack (stack_of (behind h s i)))
still_behind h s i r n k e =
    let o = held s.now.terms r in
    subst (AreStill r o) (sym (terms_stack_is h s i n))
    (still_settled r o (s.place + length_of i) (sides_run i s.place (sides_of s.frames)) _ (still_first r o (term_set i) (term_made h s i) (stack_turned (turning i) (terms_in_stack (stack_of s))) e (still_turned r o (turning i) (terms_in_stack (stack_of s)) k.1)))

pub held_still : (h : Home) (s : State) (i : Instr) (r : ℕ) → Nests i s → IsStill r s → member r (term_set i) ≡ false → term_in (behind h s i).now r ≡ term_in s.now r
held_still h s i r n k e = ap (λ (o : Option Built). unwrap_or o nothing_built) (still_behind h s i r n k e).0

still_same : (r : ℕ) (o p : Option Built) (xss : List (List (Option Built))) → o ≡ p → AreStill r o xss → AreStill r p xss
still_same r o p xss e a = subst (λ o. AreStill r o xss) e a

pub stays_still : (h : Home) (s : State) (i : Instr) (r : ℕ) → Nests i s → IsStill r s → member r (term_set i) ≡ false → IsStill r (behind h s i)
stays_still h s i r n k e =
    let t = behind h s i in
    let a = still_behind h s i r n k e in
    let sets : t.terms_set ≡ s.terms_set ++ term_set i = ap (λ (o : Outline). o.terms_set) (outline_is h s i) in
    (ap (member r) sets ∙ member_append r s.terms_set (term_set i) ∙ ap (λ b. b || member r (term_set i)) k.0, still_same r (held s.now.terms r) (held t.now.terms r) (terms_in_stack (stack_of t)) (sym a.0) a)

-- a register that was set is not set again
pub not_set : (f : ℕ → Bool) (ds : List ℕ) (r : ℕ) → list_any f ds ≡ false → f r ≡ true → member r ds ≡ false
not_set f [] r e h = refl
not_set f (d ∷ ds) r e h = by_test (nat_eq r d) refl (not_set f ds r (or_false_right (f d) (list_any f ds) e) h)
  where
    by_test : (b : Bool) → nat_eq r d ≡ b → member r ds ≡ false → (b || member r ds) ≡ false
    by_test true q go = absurd (let z : true ≡ false = sym h ∙ ap f (eqb-true r d q) ∙ or_false_left (f d) (list_any f ds) e in cc)
    by_test false q go = go

-- a record makes the type variables that its instructions make
pub made_there : (sets : Instr → List ℕ) (run : List Instr) (i : Instr) (is : List Instr) (d : ℕ) → member d (sets i) ≡ true → is_made sets (run ++ i ∷ is) d ≡ true
made_there sets [] i is d e = ap (λ b. if b then true else is_made sets is d) e
made_there sets (j ∷ run) i is d e = by_test (member d (sets j)) (made_there sets run i is d e)
  where
    by_test : (b : Bool) → is_made sets (run ++ i ∷ is) d ≡ true → (if b then true else is_made sets (run ++ i ∷ is) d) ≡ true
    by_test true go = refl
    by_test false go = go

pub own_there : (r : Record) (run : List Instr) (i : Instr) (is : List Instr) → r.code.items ≡ run ++ i ∷ is → makes_own_type r i ≡ true
own_there r run (on.TyNew d) is e = rw e (made_there _ run (on.TyNew d) is d (ap (λ b. b || false) (nat_eq_self d)))
own_there r run (on.TyCon d k ts) is e = refl
own_there r run (on.TyArr d a b) is e = refl
own_there r run (on.New d t) is e = refl
own_there r run (on.PutConst d c ts) is e = refl
own_there r run (on.PutInt d z) is e = refl
own_there r run (on.PutStr d b) is e = refl
own_there r run (on.PutIndex d x t) is e = refl
own_there r run (on.PutAbs d b t) is e = refl
own_there r run (on.PutApp d g rs) is e = refl
own_there r run (on.GetType j t) is e = refl
own_there r run (on.GetVar x d) is e = refl
own_there r run (on.Get x q) is e = refl
own_there r run (on.GetConst x c ts) is e = refl
own_there r run (on.GetInt x z) is e = refl
own_there r run (on.GetStr x b) is e = refl
own_there r run on.Neck is e = refl
own_there r run (on.Call c ts rs) is e = refl
own_there r run (on.CallTerm q) is e = refl
own_there r run (on.Equal t l q) is e = refl
own_there r run (on.Is t l q) is e = refl
own_there r run (on.Less l q) is e = refl
own_there r run (on.Greater l q) is e = refl
own_there r run (on.AtMost l q) is e = refl
own_there r run (on.AtLeast l q) is e = refl
own_there r run on.Cut is e = refl
own_there r run (on.Sigma d t) is e = refl
own_there r run (on.All d t) is e = refl
own_there r run on.EndAll is e = refl
own_there r run (on.Assume ns ts rs) is e = refl
own_there r run on.EndAssume is e = refl
own_there r run (on.Either n) is e = refl
own_there r run (on.Jump n) is e = refl
own_there r run on.Proceed is e = refl
own_there r run on.Not is e = refl
own_there r run on.EndNot is e = refl
