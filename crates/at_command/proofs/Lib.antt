pub mod KindLaws
mod Laws
