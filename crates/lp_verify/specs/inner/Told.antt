-- The rules as they are judged at work, before each instruction.
use Rattle.std.specs.Ordering.{nat_cmp}
use Rattle.std.specs.BTreeMap.{get}
use Rattle.std.specs.Prelude.{◌≡◌, ℕ, ◌+◌, reverse, nat_eq, nat_le, nat_lt, Bool, true, false, not, ◌||◌, ◌&&◌, List, [], ◌∷◌, ◌++◌, length, slice_get, Option, Some, None, Result, Ok, Err}
use Rattle.std.specs.List.{list_any}
use Rattle.lp_code.specs.declared.instruction.Instr.{Instr}
use Rattle.lp_code.specs.declared.instruction.Instr.TheVariants as on
use Rattle.lp_code.specs.declared.record.Record.{Record}
use Rattle.lp_code.specs.declared.rule.Rule.{Rule}
use Rattle.lp_code.specs.declared.rule.Rule.TheVariants as rule
use Rattle.lp_code.specs.Operands.{types_read, terms_read, type_set, term_set}
use Rattle.lp_code.specs.Rules.{is_count, breaks_term, is_assumed_record, stands_alone, has_none}
use Rattle.lp_code.specs.Symbolic.{Tables}
use Rattle.lp_verify.specs.declared.record.Work.{Work}
use Rattle.lp_verify.specs.declared.whole.Whole.{Whole}
use Rattle.lp_verify.specs.declared.built.Built as kept_built
use Rattle.lp_verify.specs.declared.loose.Entry.{Entry}
use Rattle.lp_verify.specs.declared.loose.Lists.{Lists}
use Rattle.lp_verify.specs.declared.registers.Registers.{Registers}
use Rattle.lp_verify.specs.Held.{was_set, is_lacking, value_in}
use Rattle.lp_verify.specs.inner.Reads.{reads_unset}
use Rattle.lp_verify.specs.inner.Indices.{entries_in}
use Rattle.lp_verify.specs.Scheme.{tables_in, type_vars_of}
use Rattle.lp_verify.specs.inner.Sides.{sides_in, first_end_of, nests_badly}

-- the numbers of registers, where a record has so many
abbrev pub reaches_past : (types registers : ℕ) → Instr → Bool
reaches_past m n i = list_any (nat_le m) (types_read i ++ type_set i) || list_any (nat_le n) (terms_read i ++ term_set i)

-- a term with a loose index, where it stands alone
abbrev pub loose_entries : Lists → Option kept_built.Built → List Entry
loose_entries l None = []
loose_entries l (Some t) = entries_in l t.loose

abbrev pub is_loose : Lists → Registers kept_built.Built → ℕ → Bool
is_loose l rs r = not (has_none (loose_entries l (value_in rs r)))

abbrev pub reads_loose : Lists → Registers kept_built.Built → Instr → Bool
reads_loose l rs i = list_any (is_loose l rs) (stands_alone i)

-- what was set before
abbrev pub sets_again : (types terms : ℕ → Bool) → Instr → Bool
sets_again f g i = list_any f (type_set i) || list_any g (term_set i)

-- the number of an instruction of the head, behind so many arguments
abbrev pub is_off : Bool → (arguments number : ℕ) → Bool
is_off b m i = b || not (nat_eq i m)

abbrev pub is_out_of_order : Bool → (types arguments : ℕ) → Instr → Bool
is_out_of_order b n m (on.TyNew d) = b
is_out_of_order b n m (on.New d t) = b
is_out_of_order b n m (on.GetType j t) = b || not (nat_eq j n) || not (nat_eq m 0)
is_out_of_order b n m (on.GetVar i d) = is_off b m i
is_out_of_order b n m (on.Get i r) = is_off b m i
is_out_of_order b n m (on.GetConst i c ts) = is_off b m i
is_out_of_order b n m (on.GetInt i z) = is_off b m i
is_out_of_order b n m (on.GetStr i s) = is_off b m i
is_out_of_order b n m on.Neck = b
is_out_of_order b n m (on.Call c ts rs) = not b
is_out_of_order b n m (on.CallTerm r) = not b
is_out_of_order b n m (on.Equal t l r) = not b
is_out_of_order b n m (on.Is t l r) = not b
is_out_of_order b n m (on.Less l r) = not b
is_out_of_order b n m (on.Greater l r) = not b
is_out_of_order b n m (on.AtMost l r) = not b
is_out_of_order b n m (on.AtLeast l r) = not b
is_out_of_order b n m on.Cut = not b
is_out_of_order b n m (on.Sigma d t) = not b
is_out_of_order b n m (on.All d t) = not b
is_out_of_order b n m (on.Assume ns ts rs) = not b
is_out_of_order b n m (on.Either e) = not b
is_out_of_order b n m on.Not = not b
is_out_of_order b n m i = false

abbrev pub has_wrong_count : Tables → Instr → Bool
has_wrong_count t (on.TyCon d k ts) = not (is_count (t.kinds k) (length ts.items))
has_wrong_count t (on.PutConst d c ts) = not (is_count (type_vars_of t c) (length ts.items))
has_wrong_count t (on.GetConst i c ts) = not (is_count (type_vars_of t c) (length ts.items))
has_wrong_count t (on.Call c ts rs) = not (is_count (type_vars_of t c) (length ts.items))
has_wrong_count t i = false

-- a later record that may be assumed with so many types and terms, and that was not named before
abbrev pub is_fine : (number : ℕ) → List Record → (named : ℕ → Bool) → (types terms : ℕ) → ℕ → Bool
is_fine k all f ts rs n = nat_lt k n && is_assumed_record (slice_get all n) ts rs && not (f n)

abbrev pub are_fine : (number : ℕ) → List Record → (named : ℕ → Bool) → (types terms : ℕ) → List ℕ → Bool
are_fine k all f ts rs [] = true
are_fine k all f ts rs (n ∷ ns) = is_fine k all f ts rs n && are_fine k all (λ m. nat_eq m n || f m) ts rs ns

abbrev pub names_badly : (number : ℕ) → List Record → (program : Bool) → (named : ℕ → Bool) → Instr → Bool
names_badly k all p f (on.Assume ns ts rs) = not (are_fine k all f (length ts.items) (length rs.items) ns.items)
names_badly k all p f (on.TyNew d) = not p
names_badly k all p f i = false

-- whether each of the rules is broken
pub record Broken : Type 0 where
  pub register : Bool
  pub unset : Bool
  pub set : Bool
  pub constant : Bool
  pub typing : Bool
  pub index : Bool
  pub term : Bool
  pub order : Bool
  pub head : Bool
  pub block : Bool
  pub clause : Bool
  pub key : Bool

abbrev pub breaks : Broken → Rule → Bool
breaks b rule.Register = b.register
breaks b rule.Unset = b.unset
breaks b rule.Set = b.set
breaks b rule.Constant = b.constant
breaks b rule.Typing = b.typing
breaks b rule.Index = b.index
breaks b rule.Term = b.term
breaks b rule.Order = b.order
breaks b rule.Block = b.block
breaks b rule.Clause = b.clause
breaks b rule.Head = b.head
breaks b rule.Key = b.key

-- the rules before the one on types are kept, and this one
abbrev pub AreKept : Broken → Type 0
AreKept b = (b.register ≡ false) × (b.unset ≡ false) × (b.set ≡ false) × (b.constant ≡ false)

abbrev pub ArePassed : Broken → Type 0
ArePassed b = AreKept b × (b.typing ≡ false)

-- what is told where these are broken: a rule, before which none of them is broken, or none
abbrev pub IsFirst : Broken → Option Rule → Type 0
IsFirst b None = ArePassed b × (b.index ≡ false) × (b.term ≡ false) × (b.order ≡ false) × (b.head ≡ false) × (b.block ≡ false) × (b.clause ≡ false) × (b.key ≡ false)
IsFirst b (Some rule.Register) = b.register ≡ true
IsFirst b (Some rule.Unset) = (b.register ≡ false) × (b.unset ≡ true)
IsFirst b (Some rule.Set) = (b.register ≡ false) × (b.unset ≡ false) × (b.set ≡ true)
IsFirst b (Some rule.Constant) = (b.register ≡ false) × (b.unset ≡ false) × (b.set ≡ false) × (b.constant ≡ true)
IsFirst b (Some rule.Typing) = AreKept b × (b.typing ≡ true)
IsFirst b (Some rule.Index) = ArePassed b × (b.index ≡ true)
IsFirst b (Some rule.Term) = ArePassed b × (b.index ≡ false) × (b.term ≡ true)
IsFirst b (Some rule.Order) = ArePassed b × (b.index ≡ false) × (b.term ≡ false) × (b.order ≡ true)
IsFirst b (Some rule.Head) = ArePassed b × (b.index ≡ false) × (b.term ≡ false) × (b.order ≡ false) × (b.head ≡ true)
IsFirst b (Some rule.Block) = ArePassed b × (b.index ≡ false) × (b.term ≡ false) × (b.order ≡ false) × (b.head ≡ false) × (b.block ≡ true)
IsFirst b (Some rule.Clause) = ArePassed b × (b.index ≡ false) × (b.term ≡ false) × (b.order ≡ false) × (b.head ≡ false) × (b.block ≡ false) × (b.clause ≡ true)
IsFirst b (Some rule.Key) = ArePassed b × (b.index ≡ false) × (b.term ≡ false) × (b.order ≡ false) × (b.head ≡ false) × (b.block ≡ false) × (b.clause ≡ false) × (b.key ≡ true)

-- the rule that is told in place of what an instruction builds
abbrev pub rule_of : {A : Type 0} → Result A Rule → Option Rule
rule_of (Ok x) = None
rule_of (Err r) = Some r

-- those that a record breaks as a whole
abbrev pub broken_whole : Whole → Broken
broken_whole w = record { register = w.register; unset = false; set = false; constant = w.constant; typing = false; index = false; term = false; order = w.order; head = w.head; block = w.block; clause = w.clause; key = w.key }

-- a side that should have ended is open, or blocks do not nest
abbrev pub breaks_blocks : Work → Instr → Bool
breaks_blocks w i =
    nat_le (first_end_of (reverse w.blocks.frames.items)) w.place || nests_badly w.place (get nat_cmp w.places.jumps) (nat_eq (w.number + 1) (length w.home.record.now.code.items)) (sides_in w.blocks.frames.items) i

-- those that are broken before an instruction, where these lists were put and these records named, and the rules on types and on the head are broken or not
abbrev pub told : Work → Lists → (named : ℕ → Bool) → Whole → (typing head : Bool) → Instr → Broken
told w l f x t b i = record {
  register = x.register || reaches_past w.home.record.now.types w.home.record.now.registers i;
  unset = reads_unset (is_lacking w.types) (is_lacking w.terms) i;
  set = sets_again (was_set w.types) (was_set w.terms) i;
  constant = x.constant || has_wrong_count (tables_in w.home.tables.now) i;
  typing = t;
  index = reads_loose l w.terms i;
  term = breaks_term i;
  order = x.order || is_out_of_order w.in_body (length w.head.types.items) w.head.arguments i;
  head = x.head || b;
  block = x.block || breaks_blocks w i;
  clause = x.clause || names_badly w.home.number w.home.records.now w.home.record.now.program f i;
  key = x.key;
}
