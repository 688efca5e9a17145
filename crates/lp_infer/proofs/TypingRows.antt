-- Worked typings, by computation: the equations of a text are made and solved, and the laws say that what comes of it is principal, or that
-- there is no typing.
use Rattle.std.proofs.Common.{◌≡◌, ℕ, [], ◌∷◌, Some, None, refl, subst as transport, arith}
use Rattle.lp_calculus.specs.Types.{var, arrow}
use Rattle.lp_calculus.specs.Term.{index, abs, app, atom, integer}
use Rattle.lp_calculus.specs.Typing.{int_type, string_type, list_type}
use Rattle.lp_type_laws.specs.Solving.{Outcome, unfinished, fails, solved, solve}
use Rattle.lp_type_laws.proofs.Solves.{solves, fails_rightly}
use Rattle.lp_infer.specs.Typing.{Raw, raw_index, raw_integer, raw_abs, raw_app, Typing, IsPrincipal, HasNoTyping}
use Rattle.lp_infer.specs.Generate.{generated, IsScoped}
use Rattle.std.specs.Prelude.{pos}
use Rattle.std.proofs.lemmas.Option.{same_Some}
use Rattle.lp_infer.specs.Worked.{typed_by, typed, p, q, r, nil, cons, at, typing}
use Rattle.lp_infer.proofs.Principal.{principal, no_typing}

from_outcome : (R : Raw) (names : ℕ) (T : Typing) → IsScoped names 0 R → (o : Outcome) → solve 50 (generated R names 0).equations var ≡ o → typed_by names (generated R names 0) o ≡ Some T → IsPrincipal R names T
from_outcome R names T s unfinished e f = absurd (cc)
from_outcome R names T s fails e f = absurd (cc)
from_outcome R names T s (solved θ) e f = transport (IsPrincipal R names) (same_Some _ T f) (principal R names 0 s θ (solves 50 (generated R names 0).equations θ e))

is_principal : (R : Raw) (names : ℕ) (T : Typing) → IsScoped names 0 R → typed names R ≡ Some T → IsPrincipal R names T
is_principal R names T s e = from_outcome R names T s (solve 50 (generated R names 0).equations var) refl e

has_none : (R : Raw) (names : ℕ) → IsScoped names 0 R → solve 50 (generated R names 0).equations var ≡ fails → HasNoTyping R names
has_none R names s e = no_typing R names 0 s (fails_rightly 50 (generated R names 0).equations var e)

-- p nil
pub of_nil : IsPrincipal (raw_app p nil) 0 (typing [] (app (at 32 (var 0 ∷ [])) (at 15 (var 0 ∷ []))))
of_nil = is_principal (raw_app p nil) 0 _ (tt, tt) refl

-- p (1 :: X)
pub of_list : IsPrincipal (raw_app p (raw_app (raw_app cons (raw_integer (pos 1))) (raw_index 0))) 1
    (typing (list_type int_type ∷ []) (app (at 32 (int_type ∷ [])) (app (app (at 14 (int_type ∷ [])) (atom (integer (pos 1)))) (index 0))))
of_list = is_principal (raw_app p (raw_app (raw_app cons (raw_integer (pos 1))) (raw_index 0))) 1 _ (tt, ((tt, tt), omega arith)) refl

-- r nil nil: each nil has a type of its own
pub of_two_types : IsPrincipal (raw_app (raw_app r nil) nil) 0 (typing [] (app (app (at 34 []) (at 15 (int_type ∷ []))) (at 15 (string_type ∷ []))))
of_two_types = is_principal (raw_app (raw_app r nil) nil) 0 _ ((tt, tt), tt) refl

-- q (x : int \ x)
pub of_annotated : IsPrincipal (raw_app q (raw_abs (Some int_type) (raw_index 0))) 0 (typing [] (app (at 33 (arrow int_type int_type ∷ [])) (abs (index 0))))
of_annotated = is_principal (raw_app q (raw_abs (Some int_type) (raw_index 0))) 0 _ (tt, (tt, omega arith)) refl

-- p 1
pub of_one : HasNoTyping (raw_app p (raw_integer (pos 1))) 0
of_one = has_none (raw_app p (raw_integer (pos 1))) 0 (tt, tt) refl

-- q (x\ x x)
pub of_self : HasNoTyping (raw_app q (raw_abs None (raw_app (raw_index 0) (raw_index 0)))) 0
of_self = has_none (raw_app q (raw_abs None (raw_app (raw_index 0) (raw_index 0)))) 0 (tt, (tt, (omega arith, omega arith))) refl
