-- What the reader answers to a text.
use Rattle.std.specs.Prelude.{◌≡◌, ℕ, List, Result, Ok, Err}
use Rattle.ae_vtoken.specs.Tokens.{TokenTree, AreTokens, IsBadToken}
use Rattle.ae_vmodule.specs.ModuleTree.{ModuleTree}
use Rattle.ae_vread.specs.Places.{IsBadHeader, IsBadItem}
use Rattle.ae_vmodule.specs.View.{module_tree}
use Rattle.ae_vmodule.specs.declared.module.VModule.{VModule}
use Rattle.ae_vread.specs.declared.reader.VFault.{VFault}
use Rattle.ae_vread.specs.declared.reader.VFault.TheVariants.{BadToken, BadHeader, BadItem, Memory}

-- the text has this fault; a text itself never asks for too much memory
abbrev pub HasFault : List ℕ → VFault → Type 0
HasFault text (BadToken at) = IsBadToken text at
HasFault text BadHeader = (ts : List TokenTree) × AreTokens text ts × IsBadHeader ts
HasFault text (BadItem k) = (ts : List TokenTree) × AreTokens text ts × IsBadItem ts k
HasFault text Memory = ⊥

-- a fault that is answered is the text's, unless memory ran out
abbrev pub IsFaultOf : List ℕ → VFault → Type 0
IsFaultOf text (BadToken at) = HasFault text (BadToken at)
IsFaultOf text BadHeader = HasFault text BadHeader
IsFaultOf text (BadItem k) = HasFault text (BadItem k)
IsFaultOf text Memory = Unit {0}

abbrev pub FaultHolds : List ℕ → Result VModule VFault → Type 0
FaultHolds text (Ok m) = Unit {0}
FaultHolds text (Err e) = IsFaultOf text e

-- the answer is this module, unless memory ran out
abbrev pub GivesModule : ModuleTree → Result VModule VFault → Type 0
GivesModule t (Ok m) = module_tree m ≡ t
GivesModule t (Err Memory) = Unit {0}
GivesModule t (Err (BadToken at)) = ⊥
GivesModule t (Err BadHeader) = ⊥
GivesModule t (Err (BadItem k)) = ⊥

abbrev pub IsOrMemory : VFault → VFault → Type 0
IsOrMemory e Memory = Unit {0}
IsOrMemory e (BadToken at) = e ≡ BadToken at
IsOrMemory e BadHeader = e ≡ BadHeader
IsOrMemory e (BadItem k) = e ≡ BadItem k

-- the answer is this fault, unless memory ran out
abbrev pub GivesFault : VFault → Result VModule VFault → Type 0
GivesFault e (Ok m) = ⊥
GivesFault e (Err f) = IsOrMemory e f
