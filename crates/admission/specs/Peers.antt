-- By what text a peer is bound, counted and told.
use Rattle.std.specs.Prelude.{◌≡◌, ℕ, List, [], ◌∷◌, ◌++◌, take, codes}
use Rattle.std.specs.declared.net.ip_addr.IpAddr.{IpAddr}
use Rattle.std.specs.declared.net.ip_addr.IpAddr.TheVariants.{V6}
use Rattle.std.specs.declared.net.ipv6_addr.Ipv6Addr.{Ipv6Addr}
use Rattle.std.specs.Net.Addr.{MatchIp, IsCanonicalOf, ipv6_segments}
use Rattle.std.specs.Net.Text.{ip_text}

-- an IPv4 address inside one of IPv6 counts as that (RFC 4291, section 2.5.5.2), and any other as
-- it is
abbrev pub IsAddressOf : IpAddr → IpAddr → Type 0
IsAddressOf peer address = MatchIp peer (λ _. address ≡ peer) (λ six. IsCanonicalOf six address)

-- the address without the port, in the text of RFC 5952
abbrev pub IsHostOf : IpAddr → List ℕ → Type 0
IsHostOf peer host = (address : IpAddr) × IsAddressOf peer address × (host ≡ ip_text address)

-- the first half of an address of IPv6, with zeros for the other
abbrev pub IsFirstHalfOf : Ipv6Addr → Ipv6Addr → Type 0
IsFirstHalfOf six half = ipv6_segments half ≡ take 4 (ipv6_segments six) ++ 0 ∷ 0 ∷ 0 ∷ 0 ∷ []

-- the text of an address of IPv4, and of one of IPv6 that of its first half, as a prefix of 64 bits
-- (RFC 4291, section 2.3)
abbrev pub IsNetworkText : IpAddr → List ℕ → Type 0
IsNetworkText address network =
    MatchIp address (λ _. network ≡ ip_text address)
    (λ six. (half : Ipv6Addr) × IsFirstHalfOf six half
    × (network ≡ ip_text (V6 half) ++ codes "/64"))

abbrev pub IsNetworkOf : IpAddr → List ℕ → Type 0
IsNetworkOf peer network =
    (address : IpAddr) × IsAddressOf peer address × IsNetworkText address network
