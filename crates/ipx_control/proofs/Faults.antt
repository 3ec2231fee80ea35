-- Which tests of bytes find no fault.
use Rattle.std.proofs.Common.{◌≡◌, Bool, true, false, Some, None, refl, ◌⊎◌, inl, inr}
use Rattle.std.specs.Prelude.{◌||◌, if◌then◌else◌}
use Rattle.ipx_control.specs.declared.fault.ControlFault.{ControlFault}

pub no_fault_here : (a b c : Bool) (f g h : ControlFault) → (if a then Some f else if b then (if c then Some g else None) else Some h) ≡ None → (a ≡ false) × (b ≡ true) × (c ≡ false)
no_fault_here true b c f g h e = cc
no_fault_here false true true f g h e = cc
no_fault_here false true false f g h e = (refl, refl, refl)
no_fault_here false false c f g h e = cc

pub no_fault_there : (a b c : Bool) (f g h : ControlFault) → a ≡ false → b ≡ true → c ≡ false → (if a then Some f else if b then (if c then Some g else None) else Some h) ≡ None
no_fault_there a b c f g h p q r = rw (p, q, r) refl

pub either_true : (a b : Bool) → (a || b) ≡ true → (a ≡ true) ⊎ (b ≡ true)
either_true true b e = inl refl
either_true false b e = inr e

pub first_true : (a b : Bool) → a ≡ true → (a || b) ≡ true
first_true a b e = rw e refl

pub second_true : (a b : Bool) → b ≡ true → (a || b) ≡ true
second_true true b e = refl
second_true false b e = e

pub no_sap_fault_here : (a b c d e : Bool) (f g h i : ControlFault) → (if a then Some f else if b then (if c then Some g else None) else if d then (if e then Some h else None) else Some i) ≡ None
    → (a ≡ false) × (((b ≡ true) × (c ≡ false)) ⊎ ((d ≡ true) × (e ≡ false)))
no_sap_fault_here true b c d e f g h i none = cc
no_sap_fault_here false true true d e f g h i none = cc
no_sap_fault_here false true false d e f g h i none = (refl, inl (refl, refl))
no_sap_fault_here false false c true true f g h i none = cc
no_sap_fault_here false false c true false f g h i none = (refl, inr (refl, refl))
no_sap_fault_here false false c false e f g h i none = cc

pub no_query_fault : (a b c d e : Bool) (f g h i : ControlFault) → a ≡ false → b ≡ true → c ≡ false
    → (if a then Some f else if b then (if c then Some g else None) else if d then (if e then Some h else None) else Some i) ≡ None
no_query_fault a b c d e f g h i p q r = rw (p, q, r) refl

pub no_response_fault : (a b c d e : Bool) (f g h i : ControlFault) → a ≡ false → b ≡ false → d ≡ true → e ≡ false
    → (if a then Some f else if b then (if c then Some g else None) else if d then (if e then Some h else None) else Some i) ≡ None
no_response_fault a b c d e f g h i p q r s = rw (p, q, r, s) refl
