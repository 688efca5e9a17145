-- The code of the reader of types against its machine.
use Rattle.std.proofs.Common.{◌≡◌, ℕ, suc, ◌+◌, List, [], ◌∷◌, ◌++◌, refl, sym, ap, ◌∙◌, subst, arith, length, length-append}
use Rattle.lp_syntax.specs.declared.class.Class.TheVariants.{End}
use Rattle.lp_syntax.specs.declared.types.Waiting.{Waiting}
use Rattle.lp_syntax.specs.Tokens.{Lexeme, class_at}
use Rattle.lp_syntax.specs.TypeMachine.{Wait, Need, Wants, Applies, Has, TypeState, Goes, ts, left, type_step, Runs, AtArrow, AtGroup, AtArgument}
use Rattle.lp_syntax.specs.TypeViews.{wait_of, waits_of}
use Rattle.lp_syntax.proofs.TypeReading.{runs_on, one_run}

pub waits_push : (hs : List Waiting) (h : Waiting) → waits_of (hs ++ h ∷ []) ≡ wait_of h ∷ waits_of hs
waits_push [] h = refl
waits_push (x ∷ hs) h = ap (λ l. l ++ wait_of x ∷ []) (waits_push hs h)

pub pushed_waits : (hs ks : List Waiting) (h : Waiting) → ks ≡ hs ++ h ∷ [] → Goes (ts (waits_of ks) Wants) ≡ Goes (ts (wait_of h ∷ waits_of hs) Wants)
pushed_waits hs ks h e = ap (λ ws. Goes (ts ws Wants)) (ap waits_of e ∙ waits_push hs h)

-- what the newest decides
pub on_wait : {M : Type 0} (f : List Wait → M) (ks hs : List Waiting) (h : Waiting) → ks ≡ hs ++ h ∷ [] → f (wait_of h ∷ waits_of hs) ≡ f (waits_of ks)
on_wait f ks hs h e = ap f (sym (ap waits_of e ∙ waits_push hs h))

pub on_none : {M : Type 0} (f : List Wait → M) (ks : List Waiting) → ks ≡ [] → f [] ≡ f (waits_of ks)
on_none f ks e = ap (λ k. f (waits_of k)) (sym e)

pub one_more : (ls : List Lexeme) (from at : ℕ) (s r : TypeState) → Runs ls (ts [] Wants) from s at → Goes r ≡ type_step s (class_at ls at) → Runs ls (ts [] Wants) from r (at + 1)
one_more ls from at s r d e = subst (Runs ls (ts [] Wants) from r) (let z : suc at ≡ at + 1 = omega arith in z) (runs_on ls _ s r from at (suc at) d (one_run ls s r at (sym e)))

-- no type goes over the end
left_stays : (ws : List Wait) (r : TypeState) → left ws ≡ Goes r → ⊥
left_stays [] r e = cc
left_stays (AtArrow ∷ ws) r e = left_stays ws r e
left_stays (AtGroup ∷ ws) r e = cc
left_stays (AtArgument ∷ ws) r e = cc

pub ends_there : (s r : TypeState) → Goes r ≡ type_step s End → ⊥
ends_there s r e = go s.need e
  where
    go : (n : Need) → Goes r ≡ type_step (ts s.waits n) End → ⊥
    go Wants h = cc
    go Applies h = left_stays s.waits r (sym h)
    go Has h = left_stays s.waits r (sym h)

pub no_waits : (hs : List Waiting) → waits_of hs ≡ [] → hs ≡ []
no_waits [] e = refl
no_waits (h ∷ hs) e = let n = ap length e in let m = length-append (waits_of hs) (wait_of h ∷ []) in absurd (omega (arith, n, m))
