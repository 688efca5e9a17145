-- What the code of a record's own variables takes.
use Rattle.std.proofs.Common.{◌≡◌, ◌∙◌, ◌≤◌, ◌<◌, ◌⊎◌, inl, inr, ℕ, zero, suc, ◌+◌, ◌-◌, ◌^◌, List, [], ◌∷◌, true, false, Some, if◌then◌else◌, ap, refl, sym, arith}
use Rattle.std.specs.Prelude.{nat_le, min, slice_get}
use Rattle.std.proofs.lemmas.Bool.{le-leb}
use Rattle.lp_lemmas.proofs.Options.{one_value}
use Rattle.lp_code.specs.declared.instruction.Instr.TheVariants as instr
use Rattle.lp_code.specs.Length.{length_of}
use Rattle.lp_gen.specs.declared.emitter.Emitter.{Emitter}
use Rattle.lp_gen.specs.declared.fault.RecordRefusal.{RecordRefusal}
use Rattle.lp_gen.specs.declared.fault.RecordRefusal.TheVariants as refusal
use Rattle.lp_gen.specs.Registers.{Amount, nothing, both, own_types_take, variables_take, made_takes, type_takes, unset_takes, unset_take}
use Rattle.lp_gen.specs.inner.Fitting.{misfits_of, IsRefused}
use Rattle.lp_gen.specs.Steps.{Seen, Around, marked, at_level, set_level}
use Rattle.lp_gen.specs.inner.Beginning.{IsSetAt}
use Rattle.lp_gen.specs.inner.Using.{Uses, UsesUnset, Lacks, for_types, for_terms, for_bytes, room, memory}
use Rattle.lp_gen.proofs.Using.{uses_nothing, uses_both, uses_same, same_amount, lacks_behind, lacks_then, lacks_in, plain_said, no_plain_code}

-- type variables

pub types_more : (o m k n : Emitter) (c r : ℕ) → Uses o m (own_types_take c) → k.types ≡ m.types + 1 → k.registers ≡ m.registers → k.place ≡ m.place → n.types ≡ k.types → n.registers ≡ k.registers →
    n.place ≡ k.place + length_of (instr.TyNew r) → Uses o n (own_types_take (suc c))
types_more o m k n c r u t s p x y z =
    let a = u.types_are in
    let b = u.terms_are in
    let d = u.bytes_are in
    record { types_are = omega (arith, a, t, x); terms_are = omega (arith, b, s, y); bytes_are = omega (arith, d, p, z); fits = refl }

pub no_type_more : (o m : Emitter) (c n : ℕ) (e : RecordRefusal) → Uses o m (own_types_take c) → c < n → IsRefused (65535 < m.types + 1) e → Lacks o (own_types_take n) e
no_type_more o m c n refusal.Registers u lt p = let a = u.types_are in room refl (for_types (omega (arith, a, lt, p)))
no_type_more o m c n refusal.Memory u lt p = memory refl

pub no_type_code : (o m k : Emitter) (c n r : ℕ) (e : RecordRefusal) → Uses o m (own_types_take c) → c < n → k.place ≡ m.place →
    IsRefused ((4294967295 < k.place + length_of (instr.TyNew r)) ⊎ (0 < misfits_of (instr.TyNew r))) e → Lacks o (own_types_take n) e
no_type_code o m k c n r refusal.Registers u lt s (inl p) = let a = u.bytes_are in room refl (for_bytes (omega (arith, a, lt, s, p)))
no_type_code o m k c n r refusal.Registers u lt s (inr p) = absurd (omega (arith, p))
no_type_code o m k c n r refusal.Memory u lt s p = memory refl

-- registers of variables

pub variables_used : (o n : Emitter) (c : ℕ) → n.types ≡ o.types → n.registers ≡ o.registers + c → n.place ≡ o.place → Uses o n (variables_take c)
variables_used o n c t r p = record { types_are = omega (arith, t); terms_are = r; bytes_are = omega (arith, p); fits = refl }

pub no_variable_more : (o m : Emitter) (c n : ℕ) (e : RecordRefusal) → m.registers ≡ o.registers + c → c < n → IsRefused (65535 < m.registers + 1) e → Lacks o (variables_take n) e
no_variable_more o m c n refusal.Registers r lt p = room refl (for_terms (omega (arith, r, lt, p)))
no_variable_more o m c n refusal.Memory r lt p = memory refl

pub no_register_behind : (o : Emitter) (first place n : ℕ) (e : RecordRefusal) → first ≡ o.registers → place < n → IsRefused (65535 < first + place) e → Lacks o (variables_take n) e
no_register_behind o first place n refusal.Registers r lt p = room refl (for_terms (omega (arith, r, lt, p)))
no_register_behind o first place n refusal.Memory r lt p = memory refl

-- variables that are made

unset_marked : (vs : List Seen) (i : ℕ) (v : Seen) → slice_get vs i ≡ Some v → v.is_set ≡ false → both (made_takes v) (unset_take (marked vs i)) ≡ unset_take vs
unset_marked [] i v e f = absurd (cc)
unset_marked (w ∷ vs) zero v e f = here (one_value (Some w) w v refl e)
  where
    here : w ≡ v → both (made_takes v) (both nothing (unset_take vs)) ≡ both (unset_takes w) (unset_take vs)
    here q =
        let z : unset_takes w ≡ made_takes v = ap unset_takes q ∙ ap (λ b. if b then nothing else made_takes v) f in
        same_amount _ _ (let x = ap (λ a. a.types) z in omega (arith, x)) (let x = ap (λ a. a.terms) z in omega (arith, x)) (let x = ap (λ a. a.bytes) z in omega (arith, x)) (let x = ap (λ a. a.misfits) z in omega (arith, x))
unset_marked (w ∷ vs) (suc i) v e f =
    let z = unset_marked vs i v e f in
    same_amount _ _ (let x = ap (λ a. a.types) z in omega (arith, x)) (let x = ap (λ a. a.terms) z in omega (arith, x)) (let x = ap (λ a. a.bytes) z in omega (arith, x)) (let x = ap (λ a. a.misfits) z in omega (arith, x))

pub unset_less : (a b : Around) (l : ℕ) (v : Seen) → a.base ≤ l → at_level a l ≡ Some v → v.is_set ≡ false → b ≡ set_level a l → both (made_takes v) (unset_take b.own) ≡ unset_take a.own
unset_less a b l v le at f e =
    let t : nat_le a.base l ≡ true = le-leb a.base l le in
    let got : slice_get a.own (l - a.base) ≡ Some v = sym (ap (λ c. if c then slice_get a.own (l - a.base) else a.captured l) t) ∙ at in
    let set : (set_level a l).own ≡ marked a.own (l - a.base) =
    ap (λ c. (if c then record { own = marked a.own (l - a.base); base = a.base; captured = a.captured } else a).own) t in
    ap (λ (x : Around). both (made_takes v) (unset_take x.own)) e ∙ ap (λ o. both (made_takes v) (unset_take o)) set ∙ unset_marked a.own (l - a.base) v got f

pub nothing_unset : (e : Emitter) (a : Around) → UsesUnset e e a a
nothing_unset e a = record { amount = nothing; used = uses_nothing e; left = same_amount _ _ (omega arith) (omega arith) (omega arith) (omega arith) }

pub unset_then : (o m n : Emitter) (a b c : Around) → UsesUnset o m a b → UsesUnset m n b c → UsesUnset o n a c
unset_then o m n a b c x y =
    let p = x.left in
    let q = y.left in
    record {
      amount = both x.amount y.amount;
      used = uses_both x.used y.used;
      left = same_amount _ _ (let s = ap (λ a. a.types) p in let t = ap (λ a. a.types) q in omega (arith, s, t)) (let s = ap (λ a. a.terms) p in let t = ap (λ a. a.terms) q in omega (arith, s, t))
          (let s = ap (λ a. a.bytes) p in let t = ap (λ a. a.bytes) q in omega (arith, s, t)) (let s = ap (λ a. a.misfits) p in let t = ap (λ a. a.misfits) q in omega (arith, s, t));
    }

pub unset_lacks : (o m : Emitter) (a b : Around) (e : RecordRefusal) → UsesUnset o m a b → Lacks m (unset_take b.own) e → Lacks o (unset_take a.own) e
unset_lacks o m a b e x p =
    let q = x.left in
    lacks_behind (unset_take a.own) x.used (record {
      types = let s = ap (λ a. a.types) q in omega (arith, s);
      terms = let s = ap (λ a. a.terms) q in omega (arith, s);
      bytes = let s = ap (λ a. a.bytes) q in omega (arith, s);
      misfits = let s = ap (λ a. a.misfits) q in omega (arith, s);
    }) p

pub first_lacks : (o : Emitter) (a : Amount) (b c : Amount) (e : RecordRefusal) → both a b ≡ c → Lacks o a e → Lacks o c e
first_lacks o a b c e q p =
    lacks_in c (record {
      types = let s = ap (λ a. a.types) q in omega (arith, s);
      terms = let s = ap (λ a. a.terms) q in omega (arith, s);
      bytes = let s = ap (λ a. a.bytes) q in omega (arith, s);
      misfits = let s = ap (λ a. a.misfits) q in omega (arith, s);
    }) p

-- where all are set nothing is left
all_set : (vs : List Seen) → ((p : ℕ) (v : Seen) → slice_get vs p ≡ Some v → v.is_set ≡ true) → unset_take vs ≡ nothing
all_set [] f = refl
all_set (v ∷ vs) f =
    let z : unset_takes v ≡ nothing = ap (λ b. if b then nothing else made_takes v) (f 0 v refl) in
    let r = all_set vs (λ p w e. f (suc p) w e) in
    same_amount _ _ (let s = ap (λ a. a.types) z in let t = ap (λ a. a.types) r in omega (arith, s, t)) (let s = ap (λ a. a.terms) z in let t = ap (λ a. a.terms) r in omega (arith, s, t))
    (let s = ap (λ a. a.bytes) z in let t = ap (λ a. a.bytes) r in omega (arith, s, t)) (let s = ap (λ a. a.misfits) z in let t = ap (λ a. a.misfits) r in omega (arith, s, t))

pub unset_done : (o n : Emitter) (a b : Around) → UsesUnset o n a b → ((p : ℕ) → IsSetAt b p) → Uses o n (unset_take a.own)
unset_done o n a b x set =
    let z = all_set b.own set in
    let q = x.left in
    uses_same (same_amount _ _ (let s = ap (λ a. a.types) z in let t = ap (λ a. a.types) q in omega (arith, s, t)) (let s = ap (λ a. a.terms) z in let t = ap (λ a. a.terms) q in omega (arith, s, t))
    (let s = ap (λ a. a.bytes) z in let t = ap (λ a. a.bytes) q in omega (arith, s, t)) (let s = ap (λ a. a.misfits) z in let t = ap (λ a. a.misfits) q in omega (arith, s, t))) x.used

-- the level of a place is not below the first
pub base_below : (b p l : ℕ) → b < 2 ^ 64 → l ≡ min (b + p) (2 ^ 64 - 1) → b ≤ l
base_below b p l lt e = omega (arith, lt, e)

-- a variable is made: its type, then the instruction
pub variable_made_uses : {o m n : Emitter} (v : Seen) (r k : ℕ) → Uses o m (type_takes v.of) → n.types ≡ m.types → n.registers ≡ m.registers → n.place ≡ m.place + length_of (instr.New r k) → Uses o n (made_takes v)
variable_made_uses v r k u t s p = uses_both u (plain_said (instr.New r k) 5 0 t s p refl refl refl)

pub variable_made_lacks : (o m : Emitter) (v : Seen) (r k : ℕ) (e : RecordRefusal) → Uses o m (type_takes v.of) →
    IsRefused ((4294967295 < m.place + length_of (instr.New r k)) ⊎ (0 < misfits_of (instr.New r k))) e → Lacks o (made_takes v) e
variable_made_lacks o m v r k e u p = lacks_then u (no_plain_code m (instr.New r k) 5 0 e refl refl p)
