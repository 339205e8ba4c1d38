-- Shares of the customers, one for each worker.
use Rattle.std.specs.Prelude.{ℕ, ◌%◌, ◌==◌, Bool, nat_lt}
use Rattle.vrp_routes.specs.declared.share.Share.{Share}

-- the customer's number leaves this rest, divided by how many shares there are
abbrev pub has_rest : ℕ → ℕ → ℕ → Bool
has_rest shares rest customer = customer % shares == rest

-- the customer is in the share
abbrev pub is_in : Share → ℕ → Bool
is_in share = has_rest share.shares share.rest

-- the customer is in one of the first shares
abbrev pub is_in_first : ℕ → ℕ → ℕ → Bool
is_in_first shares count customer = nat_lt (customer % shares) count
