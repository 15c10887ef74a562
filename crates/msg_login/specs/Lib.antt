pub mod SaslHandshake
pub mod SaslAuthenticate
pub mod ApiVersions
