-- What a record denotes as a clause: an assumed one but for what is written in it, and one of a program.
use Rattle.std.proofs.Common.{◌≡◌, ◌∙◌, ◌≤◌, ◌<◌, ℕ, zero, suc, List, [], ◌∷◌, ◌++◌, length, map, Bool, true, false, Option, Some, None, ap, refl, sym, subst, arith}
use Rattle.std.specs.Prelude.{nat_eq, nat_lt, if◌then◌else◌, ◌||◌, is_none, slice_get}
use Rattle.std.proofs.lemmas.Bool.{ltb-true, ltb-false}
use Rattle.std.proofs.lemmas.List.{length-append}
use Rattle.lp_calculus.specs.Types.{Ty, var}
use Rattle.lp_calculus.specs.Term.{Term, Atom}
use Rattle.lp_model.specs.Flat.{Goals, Clause, clause, no_clauses, clauses}
use Rattle.lp_code.specs.declared.record.Key.TheVariants as key
use Rattle.lp_code.specs.declared.rule.Rule.{Rule}
use Rattle.lp_code.specs.States.{Captured, State, Home, member, bind_term, bind_goals}
use Rattle.lp_code.specs.Steps.{Later, own_types, own_variables}
use Rattle.lp_code.specs.Written.{written_goals}
use Rattle.lp_code.specs.Denote.{Done, run, from_zero, started, first_state, key_is, first_key, has_right_key, clause_of, clause_ran, denoted, broken_by_record, head_term, variable_types}
use Rattle.lp_gen.specs.inner.Running.{TypesStand}
use Rattle.lp_gen.specs.Steps.{Around}
use Rattle.lp_gen.specs.inner.TermLaw.{AllLoose, with_variables}
use Rattle.lp_gen.specs.inner.Bodies.{AreThrough, bare_goals, bare_clauses, said_goals, said_clauses}
use Rattle.lp_gen.proofs.Bares.{written_same}
use Rattle.lp_gen.proofs.RecordBegins.{front_held, started_registers, not_zero}
use Rattle.lp_gen.proofs.RecordDenoted.{clause_said, NoIndex, term_stays, goals_stay}
use Rattle.lp_gen.proofs.RecordSound.{Whole, whole_sound}

-- an assumed record that was run

pub assumed_clause : (h : Home) (later : Later) (c : Captured) (σ : ℕ → Term) (A : Around) (Ts : List Ty) (head : Term) (gs : Goals) (z : State) → run
    h later (first_state h.self c) h.self.code.items ≡ Done z →
    h.self.program ≡ false → variable_types z (own_variables h.self) ≡ Ts → bind_term (own_variables h.self) h.number 0 (head_term h z) ≡ with_variables σ A (length Ts) head →
    bare_goals (bind_goals (own_variables h.self) h.number z.goals) ≡ said_goals σ A (length Ts) gs →
    (d : Clause) × (denoted h later c ≡ Some d) × (bare_clauses (clauses d no_clauses) ≡ said_clauses σ A 0 (clauses (clause 0 Ts head gs) no_clauses))
assumed_clause h later c σ A Ts head gs z ran program types top body = (
  clause_of h z,
  ap (clause_ran h) ran,
  clause_said σ A Ts (if h.self.program then length (own_types h.self) else 0) 0 (variable_types z (own_variables h.self)) (bind_term (own_variables h.self) h.number 0 (head_term h z)) head
      (bind_goals (own_variables h.self) h.number z.goals) gs (ap (λ p. if p then length (own_types h.self) else 0) program) types top body,
)

-- a record of a program that was run
pub program_clause : (h : Home) (later : Later) (c : Captured) (σ : ℕ → Term) (A : Around) (v : ℕ) (Ts : List Ty) (head : Term) (gs : Goals)
    (z : State) → run h later (first_state h.self c) h.self.code.items ≡ Done z →
    h.self.program ≡ true → length (own_types h.self) ≡ v → variable_types z (own_variables h.self) ≡ Ts → bind_term (own_variables h.self) h.number 0
    (head_term h z) ≡ with_variables σ A (length Ts) head →
    bare_goals (bind_goals (own_variables h.self) h.number z.goals) ≡ said_goals σ A (length Ts) gs → AllLoose NoIndex (length Ts) head → AreThrough
    (AllLoose NoIndex) (length Ts) gs → written_goals gs ≡ gs →
    denoted h later c ≡ Some (clause v Ts head gs)
program_clause h later c σ A v Ts head gs z ran program own types top body no_index none written =
    ap (clause_ran h) ran
    ∙ (λ i. Some (clause (((ap (λ p. if p then length (own_types h.self) else 0) program) ∙ own) i) (types i) ((top ∙ term_stays σ A (length Ts) head no_index) i)
    ((written_same (bind_goals (own_variables h.self) h.number z.goals) gs (body ∙ goals_stay σ A (length Ts) gs none) ∙ written) i)))

-- the type variables with which an assumed record starts

zero_length : (n : ℕ) → length (from_zero n) ≡ n
zero_length zero = refl
zero_length (suc n) = let z = length-append (from_zero n) (n ∷ []) in let y = zero_length n in let one : length (n ∷ []) ≡ 1 = refl in omega (arith, z, y, one)

map_long : {X Y : Type 0} (f : X → Y) (xs : List X) → length (map f xs) ≡ length xs
map_long f [] = refl
map_long f (x ∷ xs) = ap suc (map_long f xs)

map_at : {X Y : Type 0} (f : X → Y) (xs : List X) (i : ℕ) (x : X) → slice_get xs i ≡ Some x → slice_get (map f xs) i ≡ Some (f x)
map_at f [] i x e = absurd (cc)
map_at f (y ∷ ys) zero x e = (let same : y ≡ x = cc in ap (λ z. Some (f z)) same)
map_at f (y ∷ ys) (suc i) x e = map_at f ys i x e

front_at : {X : Type 0} (xs ys : List X) (i : ℕ) (x : X) → slice_get xs i ≡ Some x → slice_get (xs ++ ys) i ≡ Some x
front_at [] ys i x e = absurd (cc)
front_at (z ∷ zs) ys zero x e = e
front_at (z ∷ zs) ys (suc i) x e = front_at zs ys i x e

last_at : {X : Type 0} (xs : List X) (x : X) (i : ℕ) → i ≡ length xs → slice_get (xs ++ x ∷ []) i ≡ Some x
last_at [] x i e = ap (slice_get (x ∷ [])) e
last_at (y ∷ ys) x i e = ap (slice_get (y ∷ (ys ++ x ∷ []))) e ∙ last_at ys x (length ys) refl

zero_at : (n i : ℕ) → i < n → slice_get (from_zero n) i ≡ Some i
zero_at zero i l = absurd (omega (arith, l))
zero_at (suc n) i l = go (nat_lt i n) refl (λ q. zero_at n i q)
  where
    go : (c : Bool) → nat_lt i n ≡ c → (i < n → slice_get (from_zero n) i ≡ Some i) → slice_get (from_zero n ++ n ∷ []) i ≡ Some i
    go true e rest = front_at (from_zero n) (n ∷ []) i i (rest (ltb-true i n e))
    go false e rest =
        let q = ltb-false i n e in
        let same : n ≡ i = omega (arith, l, q) in
        let many = zero_length n in
        last_at (from_zero n) n i (omega (arith, same, many)) ∙ ap (λ z. Some z) same

pub assumed_types : (h : Home) (c : Captured) (v : ℕ) → v ≤ 65535 → c.types ≡ map var (from_zero v) → h.self.captured_types ≡ v → v ≤ h.self.types →
    Whole h (first_state h.self c) → TypesStand h v v (first_state h.self c)
assumed_types h c v few types captured low whole = record {
  few = few;
  own = omega arith;
  as_many = started_registers c.types h.self.types (let z = ap length types ∙ map_long var (from_zero v) ∙ zero_length v in omega (arith, z, low));
  stand = λ i l. front_held c.types h.self.types i (var i) (ap (λ ts. slice_get ts i) types ∙ map_at var (from_zero v) i i (zero_at v i l));
  unset = λ r le. ap (λ n. member r (from_zero n)) captured ∙ not_zero v r le;
  sound = λ z r. whole_sound h (first_state h.self c) whole r;
}

-- those of a clause of a program are made; the place does not matter
pub no_types : (h : Home) (s : State) → s.now.types ≡ started [] h.self.types → s.types_set ≡ [] → (nat_eq s.place 0 ≡ true → (r : Rule) → broken_by_record h s r ≡ false) → TypesStand h 0 0 s
no_types h s now_is set_is sound = record {
  few = omega arith;
  own = omega arith;
  as_many = subst (λ xs. Rattle.lp_gen.specs.inner.Running.HasRegisters xs h.self.types) (sym now_is) (started_registers [] h.self.types (omega arith));
  stand = λ i l. absurd (omega (arith, l));
  unset = λ r le. ap (member r) set_is;
  sound = sound;
}

or_true : (a : Bool) → (a || true) ≡ true
or_true true = refl
or_true false = refl

-- the key of an assumed record, and of one of a program
pub assumed_key : (h : Home) → h.self.program ≡ false → h.self.key ≡ key.None → has_right_key h ≡ true
assumed_key h program none =
    (λ i. is_none h.self.head || (if program i then key_is h.self.key (first_key (λ r. None) h.self.code.items) else key_is (none i) None)) ∙ or_true (is_none h.self.head)

pub program_key : (h : Home) (o : Option Atom) → h.self.program ≡ true → first_key (λ r. None) h.self.code.items ≡ o → key_is h.self.key o ≡ true → has_right_key h ≡ true
program_key h o program first is =
    (λ i. is_none h.self.head || (if program i then key_is h.self.key (first_key (λ r. None) h.self.code.items) else key_is h.self.key None)) ∙
    (λ i. is_none h.self.head || (ap (key_is h.self.key) first ∙ is) i)
    ∙ or_true (is_none h.self.head)
