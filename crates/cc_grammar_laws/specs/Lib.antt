pub mod Read
pub mod Kinds
pub mod Heights
pub mod HeightLaws
pub mod Laws
pub mod Fronts
