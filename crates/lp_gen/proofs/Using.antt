-- What is used by one function after another.
use Rattle.std.proofs.Common.{◌≡◌, ◌⊎◌, inl, inr, ℕ, zero, suc, ◌+◌, ◌<◌, ◌∙◌, List, [], ◌∷◌, ◌++◌, length, take, ap, refl, sym, subst, arith}
use Rattle.std.specs.Prelude.{map, get_or}
use Rattle.std.proofs.lemmas.List.{map-id, map-append}
use Rattle.lp_calculus.specs.Types.{Ty}
use Rattle.lp_gen.specs.declared.emitter.Emitter.{Emitter}
use Rattle.lp_gen.specs.declared.fault.RecordRefusal.{RecordRefusal}
use Rattle.lp_gen.specs.declared.fault.RecordRefusal.TheVariants as refusal
use Rattle.lp_code.specs.declared.instruction.Instr.{Instr}
use Rattle.lp_code.specs.Length.{length_of}
use Rattle.lp_gen.specs.inner.Fitting.{misfits_of, IsRefused}
use Rattle.lp_gen.specs.Registers.{Amount, nothing, both, plain_code, term_code, type_takes, all_take}
use Rattle.lp_gen.specs.inner.Using.{Uses, HasNoRoom, for_types, for_terms, for_bytes, for_misfits, Lacks, room, memory, AtMost}

pub uses_nothing : (e : Emitter) → Uses e e nothing
uses_nothing e = record { types_are = omega arith; terms_are = omega arith; bytes_are = omega arith; fits = refl }

pub uses_both : {o m n : Emitter} {a b : Amount} → Uses o m a → Uses m n b → Uses o n (both a b)
uses_both {o} {m} {n} {a} {b} x y = record {
  types_are = let p = x.types_are in let q = y.types_are in omega (arith, p, q);
  terms_are = let p = x.terms_are in let q = y.terms_are in omega (arith, p, q);
  bytes_are = let p = x.bytes_are in let q = y.bytes_are in omega (arith, p, q);
  fits = let p = x.fits in let q = y.fits in omega (arith, p, q);
}

pub more_room : {o m : Emitter} {a b c : Amount} → Uses o m a → AtMost (both a b) c → HasNoRoom m b → HasNoRoom o c
more_room {o} {m} {a} {b} {c} x l (for_types p) = for_types (let u = x.types_are in let k = l.types in omega (arith, u, k, p))
more_room {o} {m} {a} {b} {c} x l (for_terms p) = for_terms (let u = x.terms_are in let k = l.terms in omega (arith, u, k, p))
more_room {o} {m} {a} {b} {c} x l (for_bytes p) = for_bytes (let u = x.bytes_are in let k = l.bytes in omega (arith, u, k, p))
more_room {o} {m} {a} {b} {c} x l (for_misfits p) = for_misfits (let k = l.misfits in omega (arith, k, p))

-- so much was used, and what comes next has no room
pub lacks_behind : {o m : Emitter} {a b : Amount} (c : Amount) {e : RecordRefusal} → Uses o m a → AtMost (both a b) c → Lacks m b e → Lacks o c e
lacks_behind c x l (room is p) = room is (more_room x l p)
lacks_behind c x l (memory is) = memory is

pub both_at_most : (a b : Amount) → AtMost (both a b) (both a b)
both_at_most a b = record { types = omega arith; terms = omega arith; bytes = omega arith; misfits = omega arith }

pub lacks_then : {o m : Emitter} {a b : Amount} {e : RecordRefusal} → Uses o m a → Lacks m b e → Lacks o (both a b) e
lacks_then {o} {m} {a} {b} x p = lacks_behind (both a b) x (both_at_most a b) p

first_at_most : (a b : Amount) → AtMost (both nothing a) (both a b)
first_at_most a b = record { types = omega arith; terms = omega arith; bytes = omega arith; misfits = omega arith }

pub lacks_first : {o : Emitter} {a : Amount} (b : Amount) {e : RecordRefusal} → Lacks o a e → Lacks o (both a b) e
lacks_first {o} {a} b p = lacks_behind (both a b) (uses_nothing o) (first_at_most a b) p

pub lacks_in : {o : Emitter} {a : Amount} (b : Amount) {e : RecordRefusal} → AtMost a b → Lacks o a e → Lacks o b e
lacks_in {o} {a} b l p = lacks_behind b (uses_nothing o) (record { types = let k = l.types in omega (arith, k); terms = let k = l.terms in omega (arith, k); bytes = let k = l.bytes in omega (arith, k); misfits = let k = l.misfits in omega (arith, k) }) p

-- the same by what the emitter says

-- an instruction that sets a register of a term
pub term_made : {m n : Emitter} (mid : Emitter) (i : Instr) (k f : ℕ) → mid.types ≡ m.types → mid.registers ≡ m.registers + 1 → mid.place ≡ m.place → n.types ≡ mid.types → n.registers ≡ mid.registers →
    n.place ≡ mid.place + length_of i → misfits_of i ≡ 0 → length_of i ≡ k → misfits_of i ≡ f → Uses m n (term_code k f)
term_made mid i k f t r p u s q z l g = record { types_are = omega (arith, t, u); terms_are = omega (arith, r, s); bytes_are = omega (arith, p, q, l); fits = omega (arith, z, g) }

pub no_term_register : (m : Emitter) (k f : ℕ) (e : RecordRefusal) → IsRefused (65535 < m.registers + 1) e → Lacks m (term_code k f) e
no_term_register m k f refusal.Registers p = room refl (for_terms p)
no_term_register m k f refusal.Memory p = memory refl

pub no_term_code : (m mid : Emitter) (i : Instr) (k f : ℕ) (e : RecordRefusal) → mid.place ≡ m.place → length_of i ≡ k → misfits_of i ≡ f →
    IsRefused ((4294967295 < mid.place + length_of i) ⊎ (0 < misfits_of i)) e → Lacks m (term_code k f) e
no_term_code m mid i k f refusal.Registers p l g (inl q) = room refl (for_bytes (omega (arith, p, l, q)))
no_term_code m mid i k f refusal.Registers p l g (inr q) = room refl (for_misfits (omega (arith, g, q)))
no_term_code m mid i k f refusal.Memory p l g q = memory refl

-- one that sets none
pub plain_said : {m n : Emitter} (i : Instr) (k f : ℕ) → n.types ≡ m.types → n.registers ≡ m.registers → n.place ≡ m.place + length_of i → misfits_of i ≡ 0 → length_of i ≡ k → misfits_of i ≡ f →
    Uses m n (plain_code k f)
plain_said i k f t r p z l g = record { types_are = omega (arith, t); terms_are = omega (arith, r); bytes_are = omega (arith, p, l); fits = omega (arith, z, g) }

pub no_plain_code : (m : Emitter) (i : Instr) (k f : ℕ) (e : RecordRefusal) → length_of i ≡ k → misfits_of i ≡ f → IsRefused ((4294967295 < m.place + length_of i) ⊎ (0 < misfits_of i)) e →
    Lacks m (plain_code k f) e
no_plain_code m i k f refusal.Registers l g (inl q) = room refl (for_bytes (omega (arith, l, q)))
no_plain_code m i k f refusal.Registers l g (inr q) = room refl (for_misfits (omega (arith, g, q)))
no_plain_code m i k f refusal.Memory l g q = memory refl

-- amounts are equal by their numbers
pub same_amount : (a b : Amount) → a.types ≡ b.types → a.terms ≡ b.terms → a.bytes ≡ b.bytes → a.misfits ≡ b.misfits → a ≡ b
same_amount a b t r p f = λ i. record { types = t i; terms = r i; bytes = p i; misfits = f i }

pub uses_same : {o n : Emitter} {a b : Amount} → a ≡ b → Uses o n a → Uses o n b
uses_same {o} {n} e x = subst (Uses o n) e x

-- an item of a list on the way
pub part_from : {A : Type 0} (all : List A) (n : ℕ) (x : A) → n < length all → x ≡ get_or all n x → (rest : List A) × (all ≡ take n all ++ x ∷ rest)
part_from [] n x l e = absurd (omega (arith, l))
part_from (y ∷ ys) zero x l e = (ys, ap (λ z. z ∷ ys) (sym e))
part_from (y ∷ ys) (suc n) x l e = let r = part_from ys n x (omega (arith, l)) e in (r.0, ap (λ l. y ∷ l) r.1)

pub part_of : {A : Type 0} (xs all : List A) (x : A) → map (λ y. y) xs ≡ take (length xs) all → (length xs < length all) × (x ≡ get_or all (length xs) x) → (rest : List A) × (all ≡ xs ++ x ∷ rest)
part_of xs all x so t =
    let r = part_from all (length xs) x t.0 t.1 in
    (r.0, r.1 ∙ ap (λ l. l ++ x ∷ r.0) (sym so ∙ map-id xs))

-- types one after the other

all_pushed : (Ts : List Ty) (U : Ty) → all_take (Ts ++ U ∷ []) ≡ both (all_take Ts) (type_takes U)
all_pushed [] U = same_amount _ _ (omega arith) (omega arith) (omega arith) (omega arith)
all_pushed (T ∷ Ts) U =
    let e = all_pushed Ts U in
    let t = ap (λ a. a.types) e in
    let r = ap (λ a. a.terms) e in
    let p = ap (λ a. a.bytes) e in
    let f = ap (λ a. a.misfits) e in
    same_amount _ _ (omega (arith, t)) (omega (arith, r)) (omega (arith, p)) (omega (arith, f))

all_at_most : (Ts : List Ty) (U : Ty) (Us : List Ty) → AtMost (both (all_take Ts) (type_takes U)) (all_take (Ts ++ U ∷ Us))
all_at_most [] U Us = record { types = omega arith; terms = omega arith; bytes = omega arith; misfits = omega arith }
all_at_most (T ∷ Ts) U Us =
    let x = all_at_most Ts U Us in
    record {
      types = let p = x.types in omega (arith, p);
      terms = let p = x.terms in omega (arith, p);
      bytes = let p = x.bytes in omega (arith, p);
      misfits = let p = x.misfits in omega (arith, p);
    }

pub types_use_next : {A : Type 0} (f : A → Ty) (o m n : Emitter) (xs : List A) (x : A) → Uses o m (all_take (map f xs)) → Uses m n (type_takes (f x)) → Uses o n (all_take (map f (xs ++ x ∷ [])))
types_use_next f o m n xs x u v = uses_same (sym (ap all_take (map-append f xs (x ∷ [])) ∙ all_pushed (map f xs) (f x))) (uses_both u v)

pub types_lack : {A : Type 0} (f : A → Ty) (o m : Emitter) (xs all : List A) (x : A) (e : RecordRefusal) → ((rest : List A) × (all ≡ xs ++ x ∷ rest)) → Uses o m (all_take (map f xs)) →
    Lacks m (type_takes (f x)) e → Lacks o (all_take (map f all)) e
types_lack f o m xs all x e r u p =
    subst (λ l. Lacks o (all_take l) e) (sym (ap (map f) r.1 ∙ map-append f xs (x ∷ r.0))) (lacks_behind (all_take (map f xs ++ f x ∷ map f r.0)) u (all_at_most (map f xs) (f x) (map f r.0)) p)
