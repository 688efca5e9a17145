-- Terms put for atoms: bindings and closings of logic variables, and the abstraction of eigenconstants.
use Rattle.std.specs.Prelude.{ℕ, suc, ◌<◌, nat_eq, ◌&&◌, if◌then◌else◌, List, [], ◌∷◌}
use Rattle.lp_calculus.specs.Term.{Term, index, atom, abs, app, shift, Atom, constant, integer, text, eigen, logic, param}

-- terms for atoms, below one more abstraction
abbrev pub raise : (Atom → Term) → Atom → Term
raise f a = shift 0 1 (f a)

-- each atom of a term gives way to a term
abbrev pub fill : (Atom → Term) → Term → Term
fill f (index i) = index i
fill f (atom a) = f a
fill f (abs b) = abs (fill (raise f) b)
fill f (app t u) = app (fill f t) (fill f u)

-- each atom of the term is among the given ones, and its loose indices are below d
abbrev pub Within : (Atom → Type 0) → ℕ → Term → Type 0
Within P d (index i) = i < d
Within P d (atom a) = P a
Within P d (abs b) = Within P (suc d) b
Within P d (app t u) = Within P d t × Within P d u

-- terms for logic variables, which have a number and a level
abbrev pub at_variables : (ℕ → ℕ → Term) → Atom → Term
at_variables σ (logic x l) = σ x l
at_variables σ (constant c ts) = atom (constant c ts)
at_variables σ (integer z) = atom (integer z)
at_variables σ (text s) = atom (text s)
at_variables σ (eigen k) = atom (eigen k)
at_variables σ (param k t) = atom (param k t)

-- the term with a term for each of its logic variables
abbrev pub close : (ℕ → ℕ → Term) → Term → Term
close σ t = fill (at_variables σ) t

-- a term for a logic variable
pub record Binding : Type 0 where
  pub id : ℕ
  pub level : ℕ
  pub value : Term

-- the value for the variable that is bound, and each other variable as it is
abbrev pub one : Binding → ℕ → ℕ → Term
one b x l = if nat_eq x b.id && nat_eq l b.level then b.value else atom (logic x l)

abbrev pub put : Binding → Term → Term
put b t = close (one b) t

-- the bindings one after the other
abbrev pub put_all : List Binding → Term → Term
put_all [] t = t
put_all (b ∷ bs) t = put_all bs (put b t)

-- terms for eigenconstants
abbrev pub at_eigens : (ℕ → Term) → Atom → Term
at_eigens ε (eigen k) = ε k
at_eigens ε (logic x l) = atom (logic x l)
at_eigens ε (constant c ts) = atom (constant c ts)
at_eigens ε (integer z) = atom (integer z)
at_eigens ε (text s) = atom (text s)
at_eigens ε (param k t) = atom (param k t)

-- index 0 in the place of an eigenconstant
abbrev pub indexed : ℕ → Atom → Term
indexed c a = at_eigens (λ k. if nat_eq k c then index 0 else atom (eigen k)) a

-- the abstraction of an eigenconstant over a term with no loose index
abbrev pub abstraction : ℕ → Term → Term
abstraction c t = abs (fill (indexed c) t)

abbrev pub abstracted : List ℕ → Term → Term
abstracted [] t = t
abstracted (c ∷ cs) t = abstraction c (abstracted cs t)
