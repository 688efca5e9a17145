-- The types of a text, part by part.
use Rattle.std.specs.Prelude.{ℕ, suc, ◌+◌, List, [], ◌∷◌, ◌++◌}
use Rattle.lp_calculus.specs.Types.{Ty, var, arrow, instance}
use Rattle.lp_calculus.specs.Typing.{int_type, string_type, type_at}
use Rattle.lp_type_laws.specs.Equations.{Equation, equation}
use Rattle.lp_infer.specs.Generate.{fresh, given_equation}
use Rattle.lp_infer.specs.Postfix.{Mark, is_index, is_constant, is_integer, is_text, opens, closes, applies}

-- the types of the indices, that of index 0 first; the first new type variable; the equations; the type arguments so far; the types of the
-- parts so far, the newest first
pub record Sofar : Type 0 where
  pub context : List Ty
  pub next : ℕ
  pub equations : List Equation
  pub arguments : List Ty
  pub stack : List Ty

abbrev pub sofar : List Ty → ℕ → List Equation → List Ty → List Ty → Sofar
sofar C n es as_ st = record { context = C; next = n; equations = es; arguments = as_; stack = st }

abbrev pub pushed : Ty → Sofar → Sofar
pushed T s = sofar s.context s.next s.equations s.arguments (T ∷ s.stack)

-- the end of an abstraction
abbrev pub closed : ℕ → List Equation → List Ty → (context stack : List Ty) → Sofar
closed n es as_ (P ∷ C) (T ∷ st) = sofar C n es as_ (arrow P T ∷ st)
closed n es as_ [] st = sofar [] n es as_ st
closed n es as_ (P ∷ C) [] = sofar (P ∷ C) n es as_ []

abbrev pub applied : List Ty → ℕ → List Equation → List Ty → (stack : List Ty) → Sofar
applied C n es as_ (U ∷ F ∷ st) = sofar C (suc n) (es ++ equation F (arrow U (var n)) ∷ []) as_ (var n ∷ st)
applied C n es as_ (U ∷ []) = sofar C n es as_ (U ∷ [])
applied C n es as_ [] = sofar C n es as_ []

abbrev pub act : Mark → Sofar → Sofar
act (is_index i) s = pushed (type_at s.context i) s
act (is_constant c scheme) s =
    sofar s.context (s.next + scheme.count) s.equations (s.arguments ++ fresh scheme.count s.next) (instance (type_at (fresh scheme.count s.next)) scheme.body ∷ s.stack)
act (is_integer z) s = pushed int_type s
act (is_text t) s = pushed string_type s
act (opens given) s = sofar (var s.next ∷ s.context) (suc s.next) (s.equations ++ given_equation given (var s.next)) s.arguments s.stack
act closes s = closed s.next s.equations s.arguments s.context s.stack
act applies s = applied s.context s.next s.equations s.arguments s.stack

abbrev pub run : List Mark → Sofar → Sofar
run [] s = s
run (m ∷ ms) s = run ms (act m s)
