-- The key that is found is the one that the definition compares.
use Rattle.std.proofs.Common.{◌≡◌, ◌∙◌, ℕ, Bool, true, false, List, [], ◌∷◌, Option, Some, None, ap, refl, sym, subst, arith}
use Rattle.std.proofs.lemmas.Bool.{ne_eqb, eq-eqb, ltb-true, eqb-true, eqb-false}
use Rattle.std.specs.Prelude.{nat_eq, nat_lt, int_le, ◌&&◌, ◌||◌, cond, if◌then◌else◌}
use Rattle.std.specs.declared.cmp.Ordering.TheVariants.{Less, Equal, Greater}
use Rattle.std.specs.Ordering.{nat_cmp, is_eq}
use Rattle.std.specs.Str.{bytes_eq}
use Rattle.std.specs.BTreeMap.{BTreeMap, is_at}
use Rattle.std.specs.Map.{lookup}
use Rattle.lp_calculus.specs.Term.{Atom, constant as atom_constant, integer as atom_integer, text as atom_text, eigen, logic, param}
use Rattle.lp_code.specs.declared.instruction.Instr.{Instr}
use Rattle.lp_code.specs.declared.record.Key.{Key}
use Rattle.lp_code.specs.declared.record.Key.TheVariants as key
use Rattle.lp_code.specs.declared.record.KeyRef.{KeyRef}
use Rattle.lp_code.specs.Groups.{PlainKey, no_key, constant, integer, text, plain_key, looked_key}
use Rattle.lp_code.specs.Denote.{key_is, keys_behind, first_key}
use Rattle.lp_verify.specs.inner.Keys.{same_plain_key, IsKeyOf, told_key, AreKeys, IsTaken, GoesOnKeys}

pub key_same : (k : Key) (p : PlainKey) (o : Option Atom) → IsKeyOf p o → same_plain_key (plain_key k) p ≡ key_is k o
key_same key.None no_key None h = refl
key_same (key.Const c) no_key None h = refl
key_same (key.Int y) no_key None h = refl
key_same (key.Text s) no_key None h = refl
key_same k no_key (Some a) h = absurd h
key_same k (constant d) None h = absurd h
key_same key.None (constant d) (Some (atom_constant e ts)) h = refl
key_same (key.Const c) (constant d) (Some (atom_constant e ts)) h = ap (nat_eq c) h
key_same (key.Int y) (constant d) (Some (atom_constant e ts)) h = refl
key_same (key.Text s) (constant d) (Some (atom_constant e ts)) h = refl
key_same k (constant d) (Some (atom_integer z)) h = absurd h
key_same k (constant d) (Some (atom_text t)) h = absurd h
key_same k (constant d) (Some (eigen n)) h = absurd h
key_same k (constant d) (Some (logic x l)) h = absurd h
key_same k (constant d) (Some (param n t)) h = absurd h
key_same k (integer d) None h = absurd h
key_same k (integer d) (Some (atom_constant e ts)) h = absurd h
key_same key.None (integer d) (Some (atom_integer z)) h = refl
key_same (key.Const c) (integer d) (Some (atom_integer z)) h = refl
key_same (key.Int y) (integer d) (Some (atom_integer z)) h = ap ((λ v. int_le y v && int_le v y)) h
key_same (key.Text s) (integer d) (Some (atom_integer z)) h = refl
key_same k (integer d) (Some (atom_text t)) h = absurd h
key_same k (integer d) (Some (eigen n)) h = absurd h
key_same k (integer d) (Some (logic x l)) h = absurd h
key_same k (integer d) (Some (param n t)) h = absurd h
key_same k (text d) None h = absurd h
key_same k (text d) (Some (atom_constant e ts)) h = absurd h
key_same k (text d) (Some (atom_integer z)) h = absurd h
key_same key.None (text d) (Some (atom_text t)) h = refl
key_same (key.Const c) (text d) (Some (atom_text t)) h = refl
key_same (key.Int y) (text d) (Some (atom_text t)) h = refl
key_same (key.Text s) (text d) (Some (atom_text t)) h = ap (bytes_eq s.items) h
key_same k (text d) (Some (eigen n)) h = absurd h
key_same k (text d) (Some (logic x l)) h = absurd h
key_same k (text d) (Some (param n t)) h = absurd h

pub nothing_kept : (m : BTreeMap ℕ KeyRef) (all : List Instr) → m.entries ≡ [] → GoesOnKeys m all all
nothing_kept m all e = ((λ r. None), (λ r. subst (λ es. IsKeyOf (told_key (lookup (is_at (nat_cmp r)) es)) None) (sym e) tt), refl)

pub key_goes_on : (m n : BTreeMap ℕ KeyRef) (all : List Instr) (i : Instr) (is : List Instr) → ((f : ℕ → Option Atom) (is : List Instr) → AreKeys f m → IsTaken f i is None) → ((f : ℕ → Option Atom) → AreKeys f m → AreKeys (keys_behind f i) n) → GoesOnKeys m all (i ∷ is) → GoesOnKeys n all is
key_goes_on m n all i is taken passed g = (keys_behind g.0 i, passed g.0 g.1, sym (taken g.0 is g.1) ∙ g.2)

pub key_found : (m : BTreeMap ℕ KeyRef) (all : List Instr) (i : Instr) (is : List Instr) (k : KeyRef) → ((f : ℕ → Option Atom) (is : List Instr) → AreKeys f m → IsTaken f i is (Some k)) → GoesOnKeys m all (i ∷ is) → IsKeyOf (looked_key k) (first_key (λ r. None) all)
key_found m all i is k taken g = subst (IsKeyOf (looked_key k)) g.2 (taken g.0 is g.1)

pub no_key_found : (m : BTreeMap ℕ KeyRef) (all : List Instr) → GoesOnKeys m all [] → IsKeyOf no_key (first_key (λ r. None) all)
no_key_found m all g = subst (IsKeyOf no_key) g.2 tt

below_or_equal : (d r : ℕ) (a b : Bool) → nat_lt d r ≡ a → nat_eq d r ≡ b → is_eq (cond a Less (cond b Equal Greater)) ≡ nat_eq r d
below_or_equal d r true b h k = sym (ne_eqb r d (λ e. omega (arith, ltb-true d r h, e)))
below_or_equal d r false true h k = sym (eq-eqb r d (sym (eqb-true d r k)))
below_or_equal d r false false h k = sym (ne_eqb r d (λ e. eqb-false d r k (sym e)))

-- the order of numbers finds a register by its number
pub at_same : (d r : ℕ) → is_at (nat_cmp d) r ≡ nat_eq r d
at_same d r = below_or_equal d r (nat_lt d r) (nat_eq d r) refl refl

pub put_at : (b c : Bool) (value : KeyRef) (o : Option KeyRef) (k old : Option Atom) → b ≡ c → IsKeyOf (looked_key value) k → IsKeyOf (told_key o) old → IsKeyOf (told_key (cond b (Some value) o)) (if c then k else old)
put_at true true value o k old e h l = h
put_at false false value o k old e h l = l
put_at true false value o k old e h l = absurd (cc)
put_at false true value o k old e h l = absurd (cc)

-- a record without head has no key to be judged
pub wanted : (none program : Bool) (k : Key) (found : Option Atom) (right : Bool) → none ≡ false → right ≡ key_is k (if program then found else None) → right ≡ (none || (if program then key_is k found else key_is k None))
wanted true p k o v h e = absurd (cc)
wanted false true k o v h e = e
wanted false false k o v h e = e
