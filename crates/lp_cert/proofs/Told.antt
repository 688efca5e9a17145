-- What the public calls tell of what is read.
use Rattle.std.proofs.Common.{◌≡◌, ℕ, ◌<◌, ◌≤◌, List, length, map, Result, Ok, Err, refl, sym, ap, subst, ◌∙◌}
use Rattle.std.specs.Prelude.{IfOk}
use Rattle.lp_bytes.specs.declared.fault.Fault.{Fault}
use Rattle.lp_bytes.specs.declared.fault.Fault.TheVariants as bytes
use Rattle.lp_bytes.specs.declared.fault.ReadError.{ReadError}
use Rattle.lp_bytes.specs.declared.fault.ReadError.TheVariants as errors
use Rattle.lp_bytes.specs.Reading.{Fails}
use Rattle.lp_bytes.proofs.Taking.{IsBytes}
use Rattle.lp_cert.specs.declared.fault.CertFault.{CertFault}
use Rattle.lp_cert.specs.Arities.{Counts}
use Rattle.lp_cert.specs.Certified.{Certificate}
use Rattle.lp_cert.specs.Reading.{certificates_of}
use Rattle.lp_cert.specs.Refusing.{refusal, Tells}
use Rattle.lp_cert.specs.Spellable.{AreCertificates}
use Rattle.lp_cert.specs.Spelling.{spelled_certificates}
use Rattle.lp_cert.proofs.CertificatesFound.{certificates_found}
use Rattle.lp_cert.proofs.CertificatesAgain.{certificates_only}

-- a refusal tells the fault that is met
pub fault_told : {X Y : Type 0} (view : X → Y) (e : ReadError) (f : CertFault) (read : Result Y Fault) → f ≡ refusal e → Fails e read → Tells view (Err f) read
fault_told view e f read same h = subst (λ f. Tells view (Err f) read) (sym same) (told_so view e read h)
  where
    told_so : {X Y : Type 0} (view : X → Y) (e : ReadError) (read : Result Y Fault) → Fails e read → Tells view (Err (refusal e)) read
    told_so view errors.Memory read h = tt
    told_so view (errors.Fault bytes.BadMagic) read h = h
    told_so view (errors.Fault (bytes.BadVersion v)) read h = h
    told_so view (errors.Fault (bytes.Truncated at)) read h = h
    told_so view (errors.Fault (bytes.BadField at)) read h = h
    told_so view (errors.Fault (bytes.Trailing at)) read h = h
    told_so view (errors.Fault (bytes.Limit l)) read h = h

-- over the same kinds and constants
pub read_over : (d n : Counts) (bs : List ℕ) (read : Result (List Certificate) Fault) → d ≡ n → certificates_of d bs ≡ read → certificates_of n bs ≡ read
read_over d n bs read same e = ap (λ k. certificates_of k bs) (sym same) ∙ e

pub refused_over : {X : Type 0} (view : X → List Certificate) (e : ReadError) (f : CertFault) (d n : Counts) (bs : List ℕ) → d ≡ n → f ≡ refusal e → Fails e (certificates_of d bs) → Tells view (Err f) (certificates_of n bs)
refused_over view e f d n bs same is h = fault_told view e f (certificates_of n bs) is (subst (λ k. Fails e (certificates_of k bs)) same h)

pub found_so : {X : Type 0} (view : X → List Certificate) (r : Result X CertFault) (d : Counts) (bs : List ℕ) → IsBytes bs → Tells view r (certificates_of d bs)
    → IfOk r (λ x. (length bs ≤ 16777216) × AreCertificates d (view x) × (bs ≡ spelled_certificates (view x)))
found_so view (Ok x) d bs h told = certificates_found d bs (view x) h told
found_so view (Err f) d bs h told = tt

pub only_so : {X : Type 0} (view : X → List Certificate) (r : Result X CertFault) (d : Counts) (bs : List ℕ) → Tells view r (certificates_of d bs)
    → (cs : List Certificate) → length bs ≤ 16777216 → AreCertificates d cs → bs ≡ spelled_certificates cs → Tells view r (Ok cs)
only_so view r d bs told cs le h e = subst (λ read. Tells view r read) (certificates_only d bs cs le h e) told
