-- Where the numbers of an image's kinds and constants end: behind the standard ones, those that the root exports and the hidden ones of each copy.
use Rattle.std.specs.Prelude.{ℕ, ◌+◌, ◌-◌, List, map, length, get_or, sum_by, if◌then◌else◌}
use Rattle.lp_code.specs.declared.object.Object.{Object}
use Rattle.lp_code.specs.declared.object.ObjectKind.{ObjectKind}
use Rattle.lp_code.specs.declared.object.ObjectConstant.{ObjectConstant}

-- a number, and what the modules of all copies count together
abbrev pub total : (base : ℕ) → (counts order : List ℕ) → ℕ
total base counts order = base + sum_by (λ m. get_or counts m 0) order

abbrev pub hidden_kinds : List ObjectKind → ℕ
hidden_kinds ks = sum_by (λ k. if k.exported then 0 else 1) ks

abbrev pub hidden_constants : List ObjectConstant → ℕ
hidden_constants cs = sum_by (λ c. if c.exported then 0 else 1) cs

abbrev pub kind_counts : List Object → List ℕ
kind_counts os = map (λ o. hidden_kinds o.kinds.items) os

abbrev pub constant_counts : List Object → List ℕ
constant_counts os = map (λ o. hidden_constants o.constants.items) os

abbrev pub kinds_end : List Object → (root : ℕ) → (order : List ℕ) → ℕ
kinds_end os root order = total (8 + get_or (map (λ o. length o.kinds.items - hidden_kinds o.kinds.items) os) root 0) (kind_counts os) order

abbrev pub constants_end : List Object → (root : ℕ) → (order : List ℕ) → ℕ
constants_end os root order = total (32 + get_or (map (λ o. length o.constants.items - hidden_constants o.constants.items) os) root 0) (constant_counts os) order
