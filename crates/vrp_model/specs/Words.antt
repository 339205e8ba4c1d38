-- A set in two words.
use Rattle.std.proofs.Common.{◌≡◌, ℕ, ◌+◌, ◌*◌, ◌/◌, ◌%◌, ◌^◌, ◌<◌, refl}
use Rattle.std.proofs.lemmas.Nat.{shr_high, mod_low}
use Rattle.vrp_model.specs.declared.customers.customer_set.CustomerSet.TheInside.{Inside}

abbrev words_of : ℕ → Inside
words_of set = record { high = set / 2 ^ 128; low = set % 2 ^ 128 }

pub words_back : (s : Inside) → s.low < 2 ^ 128 → words_of (s.high * 2 ^ 128 + s.low) ≡ s
words_back s small = rw (shr_high s.high 128 s.low small, mod_low s.high 128 s.low small) refl
