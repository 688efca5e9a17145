-- The statuses of refusals, by what they are for, and what is written of them.
use Rattle.std.proofs.Common.{◌≡◌, ◌≢◌, ℕ, List, Option, sym, ◌∙◌, inl, inr}
use Rattle.std.specs.Global.{Global}
use Rattle.std.specs.Prelude.{Vec, Result, Ok, Err, IfErr}
use Rattle.lp_base.specs.Written.{Appends, AppendsPrefix}
use Rattle.lp_base.specs.declared.status.Status.{Status}
use Rattle.lp_base.specs.declared.status.Status.TheVariants as variant
use Rattle.lp_lines.specs.Ends.{Grows, IsFault, IsOtherLimit}
use Rattle.lp_lines.specs.Refusals.{IsRefusal, IsSourceRefusal, IsTextRefusal, line_of, status_of}
use Rattle.lp_lines.specs.declared.refusal.Refusal.{Refusal}
use Rattle.lp_lines.specs.declared.refusal.Refusal.TheVariants.{Line, Memory}
use Rattle.lp_lines.proofs.Appending.{prefix_grows}
use Rattle.lp_lines.proofs.Statuses.{is_fault}

-- a refusal of texts is one of sources
pub text_is_source : (r : Refusal) → IsTextRefusal r → IsSourceRefusal r
text_is_source (Line said line) h = elim h [ inl e ↦ inl e | inr x ↦ inr (inr (inl x.0)) ]
text_is_source Memory h = tt

pub texts_are_source : {T : Type 0} (r : Result T Refusal) → IfErr r IsTextRefusal → IfErr r IsSourceRefusal
texts_are_source (Ok x) h = tt
texts_are_source (Err r) h = text_is_source r h

module _ (said : Status) (line : Vec ℕ Global) (h : IsSourceRefusal (Line said line)) where
  pub source_not_write_fault : said ≢ variant.WriteFault
  source_not_write_fault e = elim h [ inl a ↦ cc | inr x ↦ elim x [ inl a ↦ cc | inr y ↦ elim y [ inl a ↦ cc | inr z ↦ let b = z.0 in cc ] ] ]

  pub source_not_usage : said ≢ variant.Usage
  source_not_usage e = elim h [ inl a ↦ cc | inr x ↦ elim x [ inl a ↦ cc | inr y ↦ elim y [ inl a ↦ cc | inr z ↦ let b = z.0 in cc ] ] ]

  pub source_not_done : said ≢ variant.Done
  source_not_done e = elim h [ inl a ↦ cc | inr x ↦ elim x [ inl a ↦ cc | inr y ↦ elim y [ inl a ↦ cc | inr z ↦ let b = z.0 in cc ] ] ]

  pub source_fault : said ≡ variant.ReadFault → IsFault line.items
  source_fault e = elim h [ inl a ↦ absurd (cc) | inr x ↦ elim x [ inl a ↦ absurd (cc) | inr y ↦ elim y [ inl a ↦ absurd (cc) | inr z ↦ z.1 ] ] ]

-- the status of a refusal
module _ (said : Status) (line : Vec ℕ Global) (h : IsRefusal (Line said line)) where
  pub refusal_not_write_fault : said ≢ variant.WriteFault
  refusal_not_write_fault e = elim h [ inl a ↦ cc | inr x ↦ source_not_write_fault said line x e ]

  pub refusal_not_usage : said ≢ variant.Usage
  refusal_not_usage e = elim h [ inl a ↦ cc | inr x ↦ source_not_usage said line x e ]

  pub refusal_not_done : said ≢ variant.Done
  refusal_not_done e = elim h [ inl a ↦ cc | inr x ↦ source_not_done said line x e ]

  pub refusal_fault : said ≡ variant.ReadFault → IsFault line.items
  refusal_fault e = elim h [ inl a ↦ absurd (cc) | inr x ↦ source_fault said line x e ]

-- no refusal is a fault of writing, words that ask for nothing, or all done
pub never_write_fault : (r : Refusal) → IsRefusal r → status_of r ≢ variant.WriteFault
never_write_fault (Line said line) h = refusal_not_write_fault said line h
never_write_fault Memory h = λ e. cc

pub never_usage : (r : Refusal) → IsRefusal r → status_of r ≢ variant.Usage
never_usage (Line said line) h = refusal_not_usage said line h
never_usage Memory h = λ e. cc

pub never_done : (r : Refusal) → IsRefusal r → status_of r ≢ variant.Done
never_done (Line said line) h = refusal_not_done said line h
never_done Memory h = λ e. cc

-- a refusal that was told, or not
pub told_fault : (r : Refusal) (result : Status) (a b : Option (List ℕ)) → IsRefusal r → (result ≢ variant.WriteFault → (result ≡ status_of r) × Appends a b (line_of r)) → result ≡ variant.ReadFault → (text : List ℕ) × (IsFault text × Appends a b text)
told_fault (Line said line) result a b h kept e =
    let n : result ≢ variant.WriteFault = λ f. cc in
    (line.items, (refusal_fault said line h (sym (kept n).0 ∙ e), (kept n).1))
told_fault Memory result a b h kept e =
    let n : result ≢ variant.WriteFault = λ f. cc in
    let m : result ≡ variant.Memory = (kept n).0 in
    absurd (cc)

pub told_command : (r : Refusal) (result : Status) → IsRefusal r → (result ≢ variant.WriteFault → result ≡ status_of r) → result ≢ variant.Usage
told_command r result h kept e =
    let n : result ≢ variant.WriteFault = λ f. cc in
    never_usage r h (sym (kept n) ∙ e)

-- a line that was written, or begun
pub line_grows : (result said : Status) (line : List ℕ) (a b : Option (List ℕ)) → (result ≢ variant.WriteFault → (result ≡ said) × Appends a b line) → (result ≡ variant.WriteFault → AppendsPrefix a b line) → Grows a b
line_grows result said line a b kept part = elim (is_fault result) [ inl f ↦ prefix_grows a b line (part f) | inr n ↦ (line, (kept n).1) ]

pub text_not_fault : (said : Status) (line : Vec ℕ Global) → IsTextRefusal (Line said line) → said ≢ variant.ReadFault
text_not_fault said line h e = elim h [ inl a ↦ cc | inr x ↦ let b = x.0 in cc ]

pub text_not_missing : (said : Status) (line : Vec ℕ Global) → IsTextRefusal (Line said line) → said ≢ variant.Missing
text_not_missing said line h e = elim h [ inl a ↦ cc | inr x ↦ let b = x.0 in cc ]

pub text_limit : (said : Status) (line : Vec ℕ Global) → IsTextRefusal (Line said line) → said ≡ variant.Limit → IsOtherLimit line.items
text_limit said line h e = elim h [ inl a ↦ absurd (cc) | inr x ↦ x.1 ]
