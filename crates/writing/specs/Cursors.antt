-- What the private writers say of where they stand: behind the bits that are written.
use Rattle.std.specs.Prelude.{◌≡◌, Bool, true, List, ◌++◌, ℕ, ◌+◌, ◌*◌, ◌≤◌, length, take, drop}
use Rattle.rules.specs.Strings.{field}
use Rattle.rules.specs.Packed.{bits_of}
use Rattle.layout.proofs.Bytes.{are_bytes}
use Rattle.writing.specs.declared.Pen.{Pen}

-- the bits that are written: those of whole bytes, and those that are held
abbrev pub written : Pen → List Bool
written p = bits_of (take p.at p.out.now) ++ field p.held p.acc

-- fewer bits are held than four bytes have, and w bits more have room
pub record Ready (p : Pen) (w : ℕ) : Type 0 where
  pub few : p.held ≤ 31
  pub bytes : are_bytes (take p.at p.out.now) ≡ true
  pub room : p.at * 8 + p.held + w ≤ length p.out.now * 8

-- bs was put behind what p had written: now q stands behind it, in the same buffer, and the rest is kept
pub record Put (p : Pen) (bs : List Bool) (q : Pen) : Type 0 where
  pub bits : written q ≡ written p ++ bs
  pub kept : drop q.at q.out.now ≡ drop q.at p.out.now
  pub long : length q.out.now ≡ length p.out.now
  pub few : q.held ≤ 31
  pub bytes : are_bytes (take p.at p.out.now) ≡ true → are_bytes (take q.at q.out.now) ≡ true
  pub on : p.at ≤ q.at
  pub moved : q.at * 8 + q.held ≡ p.at * 8 + p.held + length bs
  pub same : q.out.ghost_name ≡ p.out.ghost_name
