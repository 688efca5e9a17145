-- The rules as they are judged at work are those of the definition.
use Rattle.std.proofs.Common.{◌≡◌, ◌∙◌, ℕ, suc, List, [], ◌∷◌, ◌++◌, length, Bool, true, false, Option, Some, None, ap, refl, sym, arith}
use Rattle.std.specs.Prelude.{nat_eq, nat_lt, not, ◌||◌, ◌&&◌, if◌then◌else◌, option_map, slice_get, map, is_none}
use Rattle.std.specs.List.{list_any}
use Rattle.std.proofs.lemmas.Bool.{ne_eqb}
use Rattle.lp_calculus.specs.Typing.{Scheme}
use Rattle.lp_code.specs.declared.instruction.Instr.{Instr}
use Rattle.lp_code.specs.declared.instruction.Instr.TheVariants as on
use Rattle.lp_code.specs.declared.rule.Rule.{Rule}
use Rattle.lp_code.specs.declared.rule.Rule.TheVariants as rule
use Rattle.lp_code.specs.Operands.{types_read, terms_read, type_set, term_set}
use Rattle.lp_code.specs.Symbolic.{held, term_in, is_closed}
use Rattle.lp_code.specs.States.{State, Home, member}
use Rattle.lp_code.specs.Rules.{has_count, is_count, has_none, is_assumed_record, are_fine_names, named_before, breaks_unset, breaks_set, breaks_index, stands_alone, breaks_constant, breaks_order, breaks_clause}
use Rattle.lp_code.specs.Denote.{rules, first_broken}
use Rattle.lp_verify.specs.inner.Told.{is_out_of_order, has_wrong_count, sets_again, are_fine, names_badly, Broken, breaks, AreKept, ArePassed, IsFirst}
use Rattle.lp_verify.specs.inner.Reads.{reads_unset}

skip : (o next : Option Rule) (b : Bool) → b ≡ false → (if b then o else next) ≡ next
skip o next b h = ap (λ t. if t then o else next) h

stop : (o next : Option Rule) (b : Bool) → b ≡ true → (if b then o else next) ≡ o
stop o next b h = ap (λ t. if t then o else next) h

-- the rules from one on
abbrev from_key : Broken → Option Rule
from_key b = if b.key then Some rule.Key else None

abbrev from_clause : Broken → Option Rule
from_clause b = if b.clause then Some rule.Clause else from_key b

abbrev from_block : Broken → Option Rule
from_block b = if b.block then Some rule.Block else from_clause b

abbrev from_head : Broken → Option Rule
from_head b = if b.head then Some rule.Head else from_block b

abbrev from_order : Broken → Option Rule
from_order b = if b.order then Some rule.Order else from_head b

abbrev from_term : Broken → Option Rule
from_term b = if b.term then Some rule.Term else from_order b

abbrev from_index : Broken → Option Rule
from_index b = if b.index then Some rule.Index else from_term b

abbrev from_typing : Broken → Option Rule
from_typing b = if b.typing then Some rule.Typing else from_index b

abbrev from_constant : Broken → Option Rule
from_constant b = if b.constant then Some rule.Constant else from_typing b

abbrev from_set : Broken → Option Rule
from_set b = if b.set then Some rule.Set else from_constant b

abbrev from_unset : Broken → Option Rule
from_unset b = if b.unset then Some rule.Unset else from_set b

kept : (b : Broken) → AreKept b → first_broken (breaks b) rules ≡ from_typing b
kept b h = skip (Some rule.Register) (from_unset b) b.register h.0 ∙ skip (Some rule.Unset) (from_set b) b.unset h.1 ∙ skip (Some rule.Set) (from_constant b) b.set h.2 ∙ skip (Some rule.Constant) (from_typing b) b.constant h.3

passed : (b : Broken) → ArePassed b → first_broken (breaks b) rules ≡ from_index b
passed b h = kept b h.0 ∙ skip (Some rule.Typing) (from_index b) b.typing h.1

-- no index is loose
closed : (b : Broken) → ArePassed b → b.index ≡ false → first_broken (breaks b) rules ≡ from_term b
closed b h i = passed b h ∙ skip (Some rule.Index) (from_term b) b.index i

in_order : (b : Broken) → ArePassed b → b.index ≡ false → b.term ≡ false → b.order ≡ false → first_broken (breaks b) rules ≡ from_head b
in_order b h i t o = closed b h i ∙ skip (Some rule.Term) (from_order b) b.term t ∙ skip (Some rule.Order) (from_head b) b.order o

with_head : (b : Broken) → ArePassed b → b.index ≡ false → b.term ≡ false → b.order ≡ false → b.head ≡ false → first_broken (breaks b) rules ≡ from_block b
with_head b h i t o e = in_order b h i t o ∙ skip (Some rule.Head) (from_block b) b.head e

pub first_none : (b : Broken) → IsFirst b None → first_broken (breaks b) rules ≡ None
first_none b h = with_head b h.0 h.1 h.2 h.3 h.4 ∙ skip (Some rule.Block) (from_clause b) b.block h.5 ∙ skip (Some rule.Clause) (from_key b) b.clause h.6 ∙ skip (Some rule.Key) None b.key h.7

pub first_some : (b : Broken) (r : Rule) → IsFirst b (Some r) → first_broken (breaks b) rules ≡ Some r
first_some b rule.Register h = stop (Some rule.Register) (from_unset b) b.register h
first_some b rule.Unset h = skip (Some rule.Register) (from_unset b) b.register h.0 ∙ stop (Some rule.Unset) (from_set b) b.unset h.1
first_some b rule.Set h = skip (Some rule.Register) (from_unset b) b.register h.0 ∙ skip (Some rule.Unset) (from_set b) b.unset h.1 ∙ stop (Some rule.Set) (from_constant b) b.set h.2
first_some b rule.Constant h = skip (Some rule.Register) (from_unset b) b.register h.0 ∙ skip (Some rule.Unset) (from_set b) b.unset h.1 ∙ skip (Some rule.Set) (from_constant b) b.set h.2 ∙ stop (Some rule.Constant) (from_typing b) b.constant h.3
first_some b rule.Typing h = kept b h.0 ∙ stop (Some rule.Typing) (from_index b) b.typing h.1
first_some b rule.Index h = passed b h.0 ∙ stop (Some rule.Index) (from_term b) b.index h.1
first_some b rule.Term h = closed b h.0 h.1 ∙ stop (Some rule.Term) (from_order b) b.term h.2
first_some b rule.Order h = closed b h.0 h.1 ∙ skip (Some rule.Term) (from_order b) b.term h.2 ∙ stop (Some rule.Order) (from_head b) b.order h.3
first_some b rule.Head h = in_order b h.0 h.1 h.2 h.3 ∙ stop (Some rule.Head) (from_block b) b.head h.4
first_some b rule.Block h = with_head b h.0 h.1 h.2 h.3 h.4 ∙ stop (Some rule.Block) (from_clause b) b.block h.5
first_some b rule.Clause h = with_head b h.0 h.1 h.2 h.3 h.4 ∙ skip (Some rule.Block) (from_clause b) b.block h.5 ∙ stop (Some rule.Clause) (from_key b) b.clause h.6
first_some b rule.Key h = with_head b h.0 h.1 h.2 h.3 h.4 ∙ skip (Some rule.Block) (from_clause b) b.block h.5 ∙ skip (Some rule.Clause) (from_key b) b.clause h.6 ∙ stop (Some rule.Key) None b.key h.7

-- tests that agree on the rules find the same one
pub first_same : (f g : Rule → Bool) → f rule.Register ≡ g rule.Register → f rule.Unset ≡ g rule.Unset → f rule.Set ≡ g rule.Set → f rule.Constant ≡ g
    rule.Constant → f rule.Typing ≡ g rule.Typing → f rule.Index ≡ g rule.Index → f rule.Term ≡ g rule.Term → f rule.Order ≡ g rule.Order → f
    rule.Head ≡ g rule.Head → f rule.Block ≡ g rule.Block → f rule.Clause ≡ g rule.Clause → f rule.Key ≡ g rule.Key → first_broken f rules ≡
    first_broken g rules
first_same f g a u b c t x d e h o l k = λ i. if a i then Some rule.Register else (if u i then Some rule.Unset else
    (if b i then Some rule.Set else (if c i then Some rule.Constant else (if t i then Some rule.Typing else
    (if x i then Some rule.Index else (if d i then Some rule.Term else (if e i then Some rule.Order else
    (if h i then Some rule.Head else (if o i then Some rule.Block else (if l i then Some rule.Clause else
    (if k i then Some rule.Key else None)))))))))))

-- the rule on the head, of the record as a whole or of an instruction
pub headed : (a b : Bool) → b ≡ true → (a || b) ≡ true
headed true b e = refl
headed false b e = e

pub not_headed : (a b : Bool) → a ≡ false → b ≡ false → (a || b) ≡ false
not_headed a b e f = λ j. e j || f j

pub or_false : (b : Bool) → (b || false) ≡ b
or_false true = refl
or_false false = refl

counted : (o : Option Scheme) (n : ℕ) → is_count (option_map (λ (s : Scheme). s.count) o) n ≡ has_count o n
counted None n = refl
counted (Some s) n = refl

none_counted : {A : Type 0} (xs : List A) → nat_eq (length xs) 0 ≡ has_none xs
none_counted [] = refl
none_counted (x ∷ xs) = ne_eqb (suc (length xs)) 0 (λ e. omega (arith, e))

pub same_reads : (f g : ℕ → Bool) (s : State) (i : Instr) → ((r : ℕ) → f r ≡ is_none (held s.now.types r)) → ((r : ℕ) → g r ≡ is_none (held s.now.terms r)) → reads_unset f g i ≡ breaks_unset s i
same_reads f g s i e k = λ j. list_any (λ r. e r j) (types_read i) || list_any (λ r. k r j) (terms_read i)

-- where the registers that are looked at are those that the instruction reads
pub reads_told : (f g : ℕ → Bool) (ts rs : List ℕ) (i : Instr) (b : Bool) → b ≡ (list_any f ts || list_any g rs) → ts ≡ types_read i → rs ≡ terms_read i → reads_unset f g i ≡ b
reads_told f g ts rs i b e t r = sym (e ∙ (λ j. list_any f (t j) || list_any g (r j)))

-- the terms that stand alone, where each is closed that is kept so
pub same_closed : (f : ℕ → Bool) (s : State) (i : Instr) → ((r : ℕ) → f r ≡ not (is_closed (term_in s.now r).loose)) → list_any f (stands_alone i) ≡ breaks_index s i
same_closed f s i e = λ j. list_any (λ r. e r j) (stands_alone i)

pub same_sets : (f g : ℕ → Bool) (s : State) (i : Instr) → ((r : ℕ) → f r ≡ member r s.types_set) → ((r : ℕ) → g r ≡ member r s.terms_set) → sets_again f g i ≡ breaks_set s i
same_sets f g s i e k = λ j. list_any (λ r. e r j) (type_set i) || list_any (λ r. k r j) (term_set i)

pub same_counts : (h : Home) (i : Instr) → has_wrong_count h.tables i ≡ breaks_constant h i
same_counts h (on.TyCon d k ts) = refl
same_counts h (on.TyArr d a b) = refl
same_counts h (on.TyNew d) = refl
same_counts h (on.New d t) = refl
same_counts h (on.PutConst d c ts) = ap (λ b. not b) (counted (h.tables.constants c) (length ts.items))
same_counts h (on.PutInt d z) = refl
same_counts h (on.PutStr d b) = refl
same_counts h (on.PutIndex d i t) = refl
same_counts h (on.PutAbs d b t) = refl
same_counts h (on.PutApp d f rs) = refl
same_counts h (on.GetType j t) = refl
same_counts h (on.GetVar i d) = refl
same_counts h (on.Get i r) = refl
same_counts h (on.GetConst i c ts) = ap (λ b. not b) (counted (h.tables.constants c) (length ts.items))
same_counts h (on.GetInt i z) = refl
same_counts h (on.GetStr i b) = refl
same_counts h on.Neck = refl
same_counts h (on.Call c ts rs) = ap (λ b. not b) (counted (h.tables.constants c) (length ts.items))
same_counts h (on.CallTerm r) = refl
same_counts h (on.Equal t l r) = refl
same_counts h (on.Is t l r) = refl
same_counts h (on.Less l r) = refl
same_counts h (on.Greater l r) = refl
same_counts h (on.AtMost l r) = refl
same_counts h (on.AtLeast l r) = refl
same_counts h on.Cut = refl
same_counts h (on.Sigma d t) = refl
same_counts h (on.All d t) = refl
same_counts h on.EndAll = refl
same_counts h (on.Assume ns ts rs) = refl
same_counts h on.EndAssume = refl
same_counts h (on.Either n) = refl
same_counts h (on.Jump n) = refl
same_counts h on.Proceed = refl
same_counts h on.Not = refl
same_counts h on.EndNot = refl

-- the order, where the numbers are those of the state
pub same_order : (s : State) (i : Instr) → is_out_of_order s.in_body (length s.head_types) (length s.head_arguments) i ≡ breaks_order s i
same_order s (on.TyCon d k ts) = refl
same_order s (on.TyArr d a b) = refl
same_order s (on.TyNew d) = refl
same_order s (on.New d t) = refl
same_order s (on.PutConst d c ts) = refl
same_order s (on.PutInt d z) = refl
same_order s (on.PutStr d b) = refl
same_order s (on.PutIndex d i t) = refl
same_order s (on.PutAbs d b t) = refl
same_order s (on.PutApp d f rs) = refl
same_order s (on.GetType j t) = ap (λ b. (s.in_body || not (nat_eq j (length s.head_types))) || not b) (none_counted s.head_arguments)
same_order s (on.GetVar i d) = refl
same_order s (on.Get i r) = refl
same_order s (on.GetConst i c ts) = refl
same_order s (on.GetInt i z) = refl
same_order s (on.GetStr i b) = refl
same_order s on.Neck = refl
same_order s (on.Call c ts rs) = refl
same_order s (on.CallTerm r) = refl
same_order s (on.Equal t l r) = refl
same_order s (on.Is t l r) = refl
same_order s (on.Less l r) = refl
same_order s (on.Greater l r) = refl
same_order s (on.AtMost l r) = refl
same_order s (on.AtLeast l r) = refl
same_order s on.Cut = refl
same_order s (on.Sigma d t) = refl
same_order s (on.All d t) = refl
same_order s on.EndAll = refl
same_order s (on.Assume ns ts rs) = refl
same_order s on.EndAssume = refl
same_order s (on.Either n) = refl
same_order s (on.Jump n) = refl
same_order s on.Proceed = refl
same_order s on.Not = refl
same_order s on.EndNot = refl

-- the names, where those that were named are the same ones
abbrev pub also_named : (ℕ → Bool) → ℕ → ℕ → Bool
also_named f n m = nat_eq m n || f m

same_fine : (h : Home) (f : ℕ → Bool) (named : List ℕ) (ts rs : ℕ) (ns : List ℕ) → ((n : ℕ) → f n ≡ member n named) → are_fine h.number h.records f ts rs ns ≡ are_fine_names h named ts rs ns
same_fine h f named ts rs [] e = refl
same_fine h f named ts rs (n ∷ ns) e =
    let rest = same_fine h (also_named f n) (n ∷ named) ts rs ns (λ m. ap (λ b. nat_eq m n || b) (e m)) in
    λ j. (nat_lt h.number n && is_assumed_record (slice_get h.records n) ts rs && not (e n j)) && rest j

pub same_names : (h : Home) (s : State) (f : ℕ → Bool) (i : Instr) → ((n : ℕ) → f n ≡ member n (named_before h.number h.records ++ map (λ a. a.0) s.assumed)) → names_badly h.number h.records h.self.program f i ≡ breaks_clause h s i
same_names h s f (on.TyCon d k ts) e = refl
same_names h s f (on.TyArr d a b) e = refl
same_names h s f (on.TyNew d) e = refl
same_names h s f (on.New d t) e = refl
same_names h s f (on.PutConst d c ts) e = refl
same_names h s f (on.PutInt d z) e = refl
same_names h s f (on.PutStr d b) e = refl
same_names h s f (on.PutIndex d x t) e = refl
same_names h s f (on.PutAbs d b t) e = refl
same_names h s f (on.PutApp d g rs) e = refl
same_names h s f (on.GetType j t) e = refl
same_names h s f (on.GetVar x d) e = refl
same_names h s f (on.Get x r) e = refl
same_names h s f (on.GetConst x c ts) e = refl
same_names h s f (on.GetInt x z) e = refl
same_names h s f (on.GetStr x b) e = refl
same_names h s f on.Neck e = refl
same_names h s f (on.Call c ts rs) e = refl
same_names h s f (on.CallTerm r) e = refl
same_names h s f (on.Equal t l r) e = refl
same_names h s f (on.Is t l r) e = refl
same_names h s f (on.Less l r) e = refl
same_names h s f (on.Greater l r) e = refl
same_names h s f (on.AtMost l r) e = refl
same_names h s f (on.AtLeast l r) e = refl
same_names h s f on.Cut e = refl
same_names h s f (on.Sigma d t) e = refl
same_names h s f (on.All d t) e = refl
same_names h s f on.EndAll e = refl
same_names h s f (on.Assume ns ts rs) e = ap (λ b. not b) (same_fine h f (named_before h.number h.records ++ map (λ a. a.0) s.assumed) (length ts.items) (length rs.items) ns.items e)
same_names h s f on.EndAssume e = refl
same_names h s f (on.Either n) e = refl
same_names h s f (on.Jump n) e = refl
same_names h s f on.Proceed e = refl
same_names h s f on.Not e = refl
same_names h s f on.EndNot e = refl
